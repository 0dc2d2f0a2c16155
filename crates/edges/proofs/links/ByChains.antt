-- The chains of all sides can be walked along, and what is linked then are the sides.
use Prim.Native.Nat.{ℕ, ◌-◌, ◌*◌, ◌+◌, ◌/◌, ◌%◌, ◌≤◌, ◌<◌}
use native.Mathlib.Omega.{arith}
use mathlib.Core.Path.{◌≡◌, ap, subst}
use mathlib.Core.Bool.{Bool, true, false, not, cond}
use mathlib.Core.List.{List}
use lib.Dec.{ltb}
use lib.ListN.{length, get_or}
use borrow.Author.Tests.{ne_eqb}
use Rattle.base.specs.Every.{Every}
use Rattle.base.specs.Lists.{sift, up_from}
use Rattle.corners.specs.Corners.{none, next_of, there}
use Rattle.sides.specs.Sides.{pair_of, key_of, sides_of}
use Rattle.side_chains.specs.Steps.Chains.{low_of, high_of, high_in, Chained, Enterable, Fit, Linkable, sides_from}
use Rattle.sides.proofs.EveryOf.{every_map, every_both, every_passes}
use Rattle.sides.proofs.SideLaws.{leads_within}
use Rattle.edges.proofs.links.Whole.{sides_within, sides_rise}

all_sides : (cs : List ℕ) → sides_from cs 0 ≡ sides_of cs
all_sides cs = let n : length cs - 0 ≡ length cs = omega arith in ap (λ (m : ℕ). sift (there cs) (up_from 0 m)) n

pub chained : (cs heads nexts : List ℕ) → Chained (key_of cs) (sides_from cs 0) heads nexts → Chained (key_of cs) (sides_of cs) heads nexts
chained cs heads nexts g = subst (λ (l : List ℕ). Chained (key_of cs) l heads nexts) (all_sides cs) g

module _ (cs heads nexts : List ℕ) (w : Enterable cs heads nexts) (s : ℕ) (h : s < length cs) (t : there cs s ≡ true) where
  both_small : (get_or cs s 0 < 32768) × (get_or cs (next_of s) 0 < 32768)
  both_small = w.corners.small s h t

  both_below : (get_or cs s 0 < length heads) × (get_or cs (next_of s) 0 < length heads)
  both_below = (
    w.below s h t,
    w.below (next_of s) (leads_within s (length cs) h w.corners.threes)
        (ap not (ne_eqb (get_or cs (next_of s) 0) none (λ q. omega (arith, q, both_small.1)))),
  )

  pub corners_below : (low_of (key_of cs) s < length heads) × (high_of (key_of cs) s < length heads)
  unfolding key_of pair_of
  corners_below = go (ltb (get_or cs s 0) (get_or cs (next_of s) 0))
    where
      go : (b : Bool)
          → (cond b (get_or cs s 0 * 32768 + get_or cs (next_of s) 0) (get_or cs (next_of s) 0 * 32768 + get_or cs s 0) / 32768 < length heads)
          × (cond b (get_or cs s 0 * 32768 + get_or cs (next_of s) 0) (get_or cs (next_of s) 0 * 32768 + get_or cs s 0) % 32768 < length heads)
      go true = (omega (arith, both_below.0, both_small.1), omega (arith, both_below.1, both_small.1))
      go false = (omega (arith, both_below.1, both_small.0), omega (arith, both_below.0, both_small.0))

module _ (cs heads₀ nexts₀ : List ℕ) (w : Enterable cs heads₀ nexts₀) where
  there_within : Every (λ s. (s < length cs) × (there cs s ≡ true)) (sides_of cs)
  there_within = every_both (λ s. s < length cs) (λ s. there cs s ≡ true) (sides_of cs) (sides_within cs w.corners (length cs) (omega arith))
      (every_passes (there cs) (up_from 0 (length cs)))

  pub lows : (heads : List ℕ) → length heads ≡ length heads₀ → Every (λ s. low_of (key_of cs) s < length heads) (sides_of cs)
  lows heads hl = every_map (λ s. (s < length cs) × (there cs s ≡ true)) (λ s. low_of (key_of cs) s < length heads)
      (λ s k. omega (arith, (corners_below cs heads₀ nexts₀ w s k.0 k.1).0, hl)) (sides_of cs) there_within

  module _ (heads nexts firsts links : List ℕ) (g : Chained (key_of cs) (sides_from cs 0) heads nexts) (hl : length heads ≡ length heads₀)
      (nl : length nexts ≡ length nexts₀) (fl : length firsts ≡ length heads₀) (ll : length cs ≤ length links) (few : length heads₀ ≤ 32768) where
    fits : Every (Fit nexts firsts links) (sides_of cs)
    fits = every_map (λ s. ((s < length cs) × (there cs s ≡ true)) × (high_in nexts s ≡ high_of (key_of cs) s)) (Fit nexts firsts links)
        (λ s k. record {
          number = omega (arith, k.0.0, w.corners.few);
          for_next = omega (arith, k.0.0, w.for_nexts, nl);
          for_link = omega (arith, k.0.0, ll);
          for_first = omega (arith, k.1, (corners_below cs heads₀ nexts₀ w s k.0.0 k.0.1).1, fl);
        }) (sides_of cs)
        (every_both (λ s. (s < length cs) × (there cs s ≡ true)) (λ s. high_in nexts s ≡ high_of (key_of cs) s) (sides_of cs) there_within
        (chained cs heads nexts g).highs)

    pub linkable : ((b : ℕ) → b < length firsts → get_or firsts b 0 ≤ 0) → Linkable heads nexts firsts links
    linkable old =
        record {
          key = key_of cs;
          sides = sides_of cs;
          chained = chained cs heads nexts g;
          rising = sides_rise cs w.corners;
          fit = fits;
          few = omega (arith, few, hl);
          old = old;
        }
