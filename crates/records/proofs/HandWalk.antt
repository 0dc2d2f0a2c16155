-- A walk by hand whose parameters are given to a callee for good: at exit each is what the callee says of its last value.
use mathlib.Core.List.{List, [], ◌∷◌}
use Prim.Native.Nat.{ℕ}
use seplogic.Ra.Ura.{Ura}
use types.Logic.{Logic}
use denote.Exit.{Kept, left}
use denote.Signature.{Slot}
use denote.Triple.End.{Kepts}
use denote.Triple.Walked.{Stay, Stays, AllGo}

module _ {n : ℕ} where
  abbrev passed_on : (s : Slot n) (k : Kept) → Stay s k
  passed_on s k = record { fit = λ κs x f. Unit {0}; has = λ κs x f vs. left ((s.row κs).exit k) x f }

  abbrev pub all_passed : (ss : List (Slot n)) (ks : Kepts ss) → Stays ss ks
  all_passed [] ks = tt
  all_passed (s ∷ ss) ks = (passed_on s ks.0, all_passed ss ks.1)

  pub all_go : {M : Type 1} {𝓤 : Ura M} (𝓛 : Logic 𝓤) (ss : List (Slot n)) (ks : Kepts ss)
      → AllGo 𝓛 n ss ks (all_passed ss ks)
  all_go 𝓛 [] ks = tt
  all_go 𝓛 (s ∷ ss) ks = (λ κs x f vs ok. 𝓛.laws.⇛_intro _, all_go 𝓛 ss ks.1)
