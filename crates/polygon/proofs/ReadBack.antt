-- Reading what was written gives the canonical polygon, and writing what was read the record with its unused bytes cleared. Assumes nothing.
use mathlib.Core.Bool.{Bool, true, false, not, cond}
use mathlib.Core.List.{List, [], ◌∷◌, ◌++◌}
use mathlib.Core.Path.{◌≡◌, refl, sym, ap, ap₂, subst, ◌∙◌}
use Prim.Native.Nat.{ℕ, zero, suc, ◌+◌, ◌-◌, ◌*◌, ◌/◌, ◌%◌, ◌^◌, ◌≤◌, ◌<◌}
use native.Mathlib.Nat.{add-zero}
use native.Mathlib.Omega.{arith}
use lib.Dec.{T, ltb, le→leb}
use lib.IntN.{ℤ, pos, negsuc}
use lib.ListN.{length, get_or, take, drop, length-append}
use lib.Seq.{drop-drop, take-add}
use lib.Ieee.{Float, binary32, is_nan, of_bits, to_bits}
use lib.Ieee.Bits.{to_bits-lt, to_bits-of_bits}
use mir.Syntax.{w16}
use mir.Val.{SFits}
use borrow.Author.Tests.{le-ltb}
use Rattle.float32.specs.Casts.{low16bits, signed16}
use Rattle.float32.proofs.Low16.{low_lt, low16_self}
use Rattle.base.specs.LittleEndian.{little_endian, le_at}
use Rattle.base.proofs.LittleEndian.{le_after, le_back}
use Rattle.base.proofs.StoreLaws.{rest_one}
use Rattle.polygon.specs.Halves.{four_bytes, halves_bytes, halves_at}
use Rattle.polygon.specs.Polygons.{nan_or, word_or, triangle_halves, round_halves, box_halves, halves_of, polygon_bytes, joined}
use Rattle.polygon.specs.Polygons.{triangle_of, sphere_of, capsule_of, box_of, cylinder_of, polygon_of, polygon_at, kind_at}
use Rattle.polygon.specs.Answers.{read_of}
use Rattle.polygon.specs.Canonical.{canonical, Word, PolygonFits, HalvesFit, kept}
use Rattle.polygon.specs.declared.halves.Halves.{Halves}
use Rattle.polygon.specs.declared.Polygon.{Polygon}
use Rattle.polygon.specs.declared.Polygon.TheVariants.{Triangle, Sphere, Capsule, Box, Cylinder}
use Rattle.std.proofs.Common.{Ok, Err}
use Rattle.polygon.specs.declared.ReadRefusal.TheVariants.{ShortRecord, UnknownKind}
use Rattle.polygon.proofs.KindLaws.{kind_read, triangle_by_kind, box_by_kind, sphere_by_kind, capsule_by_kind, cylinder_by_kind}
use Rattle.polygon.proofs.Sizes.{polygon_bytes_lem}

-- ---- the eight numbers

halves_alone : (rest : List ℕ) (h : Halves) → HalvesFit h → halves_at (halves_bytes h ++ rest) 0 ≡ h
unfolding halves_bytes four_bytes little_endian halves_at le_at
halves_alone rest h f =
    let e0 = le_back 2 h.at0 [] f.at0 in
    let e2 = le_back 2 h.at2 [] f.at2 in
    let e4 = le_back 2 h.at4 [] f.at4 in
    let e6 = le_back 2 h.at6 [] f.at6 in
    let e8 = le_back 2 h.at8 [] f.at8 in
    let e10 = le_back 2 h.at10 [] f.at10 in
    let e12 = le_back 2 h.at12 [] f.at12 in
    let e14 = le_back 2 h.at14 [] f.at14 in
    λ i. record { at0 = e0 i; at2 = e2 i; at4 = e4 i; at6 = e6 i; at8 = e8 i; at10 = e10 i; at12 = e12 i; at14 = e14 i }

-- What stands after p is read as if it stood alone.
halves_after : (p q : List ℕ) (at : ℕ) → length p ≡ at → halves_at (p ++ q) at ≡ halves_at q 0
unfolding halves_at
halves_after p q at e =
    let e0 = ap (le_at 2 (p ++ q)) (sym (add-zero at)) ∙ le_after 2 p q at 0 e in
    let e2 = le_after 2 p q at 2 e in
    let e4 = le_after 2 p q at 4 e in
    let e6 = le_after 2 p q at 6 e in
    let e8 = le_after 2 p q at 8 e in
    let e10 = le_after 2 p q at 10 e in
    let e12 = le_after 2 p q at 12 e in
    let e14 = le_after 2 p q at 14 e in
    λ i. record { at0 = e0 i; at2 = e2 i; at4 = e4 i; at6 = e6 i; at8 = e8 i; at10 = e10 i; at12 = e12 i; at14 = e14 i }

-- ---- the fields

-- The low 16 bits of an i16 stand for it.
short_back : (v : ℤ) → SFits w16 v → signed16 (low16bits v) ≡ v
short_back (pos n) h = low16_self (pos n) tt (omega (arith, h.sfits, le→leb))
short_back (negsuc n) h = low16_self (negsuc n) (omega (arith, h.sfits, le→leb)) tt

word_lt : (x : Float) (nan : ℕ) → Word x nan → word_or x nan < 2 ^ 32
unfolding word_or nan_or
word_lt x nan f = by (is_nan x) (is_nan (of_bits binary32 nan))
  where
    by : (b stays : Bool) → cond b (cond stays nan 0x7fc0_0000) (to_bits binary32 x) < 2 ^ 32
    by true true = f.1
    by true false = omega arith
    by false stays = to_bits-lt binary32 x f.0

word_joined : (w : ℕ) → joined (w % 65536) (w / 65536) ≡ w
word_joined w = omega arith

area_joined : (w : ℕ) → joined (w % 65536 / 8 * 8 / 8 * 8) (w / 65536) ≡ w / 8 * 8
area_joined w = omega arith

-- ---- read after write

fitting : (p : Polygon) → PolygonFits p → HalvesFit (halves_of p)
unfolding triangle_halves round_halves box_halves
fitting (Triangle area nan v1 v2 v3 e1 e2 e3) f =
    let below = word_lt area nan f.0 in
    record {
      at0 = omega arith;
      at2 = omega arith;
      at4 = f.1;
      at6 = f.2;
      at8 = f.3;
      at10 = low_lt e1;
      at12 = low_lt e2;
      at14 = low_lt e3;
    }
fitting (Sphere index radius nan) f =
    let below = word_lt radius nan f.0 in
    record {
      at0 = omega arith;
      at2 = f.1;
      at4 = omega arith;
      at6 = omega arith;
      at8 = omega arith;
      at10 = omega arith;
      at12 = omega arith;
      at14 = omega arith;
    }
fitting (Capsule i1 i2 radius nan) f =
    let below = word_lt radius nan f.0 in
    record {
      at0 = omega arith;
      at2 = f.1;
      at4 = omega arith;
      at6 = omega arith;
      at8 = f.2;
      at10 = omega arith;
      at12 = omega arith;
      at14 = omega arith;
    }
fitting (Box i1 i2 i3 i4) f =
    record {
      at0 = omega arith;
      at2 = omega arith;
      at4 = low_lt i1;
      at6 = low_lt i2;
      at8 = low_lt i3;
      at10 = low_lt i4;
      at12 = omega arith;
      at14 = omega arith;
    }
fitting (Cylinder i1 i2 radius nan) f =
    let below = word_lt radius nan f.0 in
    record {
      at0 = omega arith;
      at2 = f.1;
      at4 = omega arith;
      at6 = omega arith;
      at8 = f.2;
      at10 = omega arith;
      at12 = omega arith;
      at14 = omega arith;
    }

back : (p : Polygon) → PolygonFits p → polygon_of (halves_of p) ≡ canonical p
unfolding triangle_halves round_halves box_halves triangle_of sphere_of capsule_of box_of cylinder_of
back (Triangle area nan v1 v2 v3 e1 e2 e3) f =
    let kind : word_or area nan % 65536 / 8 * 8 % 8 ≡ 0 = omega arith in
    triangle_by_kind (triangle_halves (word_or area nan) v1 v2 v3 e1 e2 e3) kind
    ∙ rw (area_joined (word_or area nan), short_back e1 f.4, short_back e2 f.5, short_back e3 f.6)
back (Sphere index radius nan) f =
    sphere_by_kind (round_halves 1 index 0 (word_or radius nan)) refl ∙ rw (word_joined (word_or radius nan))
back (Capsule i1 i2 radius nan) f =
    capsule_by_kind (round_halves 2 i1 i2 (word_or radius nan)) refl ∙ rw (word_joined (word_or radius nan))
back (Box i1 i2 i3 i4) f =
    box_by_kind (box_halves i1 i2 i3 i4) refl
    ∙ rw (short_back i1 f.0, short_back i2 f.1, short_back i3 f.2, short_back i4 f.3)
back (Cylinder i1 i2 radius nan) f =
    cylinder_by_kind (round_halves 4 i1 i2 (word_or radius nan)) (λ e. omega arith) (λ e. omega arith) (λ e. omega arith) (λ e. omega arith)
    ∙ rw (word_joined (word_or radius nan))

-- A polygon that was written is read back, but for the three bits that its area gave.
pub polygon_back : (q rest : List ℕ) (at : ℕ) (p : Polygon) → length q ≡ at → PolygonFits p → polygon_at (q ++ (polygon_bytes p ++ rest)) at ≡ canonical p
unfolding polygon_at polygon_bytes
polygon_back q rest at p e f =
    ap polygon_of (halves_after q (halves_bytes (halves_of p) ++ rest) at e ∙ halves_alone rest (halves_of p) (fitting p f)) ∙ back p f

-- ---- write after read

bits_back : (b : ℕ) → b < 65536 → low16bits (signed16 b) ≡ b
bits_back b h = by (ltb b 32768) refl
  where
    by : (t : Bool) → ltb b 32768 ≡ t → low16bits (cond t (pos b) (negsuc (65535 - b))) ≡ b
    by true e = omega arith
    by false e = omega arith

-- the word that was read is the word that is written
pub word_back : (w : ℕ) → w < 2 ^ 32 → word_or (of_bits binary32 w) w ≡ w
unfolding word_or nan_or
word_back w h = by (is_nan (of_bits binary32 w)) refl
  where
    by : (b : Bool) → is_nan (of_bits binary32 w) ≡ b → cond b (cond b w 0x7fc0_0000) (to_bits binary32 (of_bits binary32 w)) ≡ w
    by true e = refl
    by false e = to_bits-of_bits binary32 w h (subst (λ (b : Bool). T (not b)) (sym e) tt)

-- what a sphere, a capsule or a cylinder writes of what it read
round_again : (kind i1 i2 low high : ℕ) → low < 65536 → high < 65536
    → round_halves kind i1 i2 (word_or (of_bits binary32 (joined low high)) (joined low high))
    ≡ record { at0 = kind; at2 = i1; at4 = low; at6 = high; at8 = i2; at10 = 0; at12 = 0; at14 = 0 }
unfolding round_halves
round_again kind i1 i2 low high hl hh =
    let same = word_back (joined low high) (omega arith) in
    let e4 : word_or (of_bits binary32 (joined low high)) (joined low high) % 65536 ≡ low = ap (λ (w : ℕ). w % 65536) same ∙ omega arith in
    let e6 : word_or (of_bits binary32 (joined low high)) (joined low high) / 65536 ≡ high = ap (λ (w : ℕ). w / 65536) same ∙ omega arith in
    λ i. record { at0 = kind; at2 = i1; at4 = e4 i; at6 = e6 i; at8 = i2; at10 = 0; at12 = 0; at14 = 0 }

module _ (h : Halves) (f : HalvesFit h) where
  triangle_again : h.at0 % 8 ≡ 0 → halves_of (polygon_of h) ≡ kept h
  unfolding kept triangle_of triangle_halves
  triangle_again k =
      let w = joined (h.at0 / 8 * 8) h.at2 in
      let same = word_back w (omega (arith, f.at0, f.at2)) in
      let e0 : word_or (of_bits binary32 w) w % 65536 / 8 * 8 ≡ h.at0 = ap (λ (v : ℕ). v % 65536 / 8 * 8) same ∙ omega (arith, f.at0) in
      let e2 : word_or (of_bits binary32 w) w / 65536 ≡ h.at2 = ap (λ (v : ℕ). v / 65536) same ∙ omega (arith, f.at0) in
      let e10 = bits_back h.at10 f.at10 in
      let e12 = bits_back h.at12 f.at12 in
      let e14 = bits_back h.at14 f.at14 in
      let whole : halves_of (triangle_of h) ≡ h =
      λ i. record { at0 = e0 i; at2 = e2 i; at4 = h.at4; at6 = h.at6; at8 = h.at8; at10 = e10 i; at12 = e12 i; at14 = e14 i } in
      ap halves_of (triangle_by_kind h k) ∙ whole ∙ rw k

  sphere_again : h.at0 % 8 ≡ 1 → halves_of (polygon_of h) ≡ kept h
  unfolding kept sphere_of
  sphere_again k = ap halves_of (sphere_by_kind h k) ∙ round_again 1 h.at2 0 h.at4 h.at6 f.at4 f.at6 ∙ rw k

  capsule_again : h.at0 % 8 ≡ 2 → halves_of (polygon_of h) ≡ kept h
  unfolding kept capsule_of
  capsule_again k = ap halves_of (capsule_by_kind h k) ∙ round_again 2 h.at2 h.at8 h.at4 h.at6 f.at4 f.at6 ∙ rw k

  box_again : h.at0 % 8 ≡ 3 → halves_of (polygon_of h) ≡ kept h
  unfolding kept box_of box_halves
  box_again k =
      let e4 = bits_back h.at4 f.at4 in
      let e6 = bits_back h.at6 f.at6 in
      let e8 = bits_back h.at8 f.at8 in
      let e10 = bits_back h.at10 f.at10 in
      ap halves_of (box_by_kind h k) ∙ rw (e4, e6, e8, e10, k)

  cylinder_again : h.at0 % 8 ≡ 4 → halves_of (polygon_of h) ≡ kept h
  unfolding kept cylinder_of
  cylinder_again k =
      let last = cylinder_by_kind h (λ e. omega arith) (λ e. omega arith) (λ e. omega arith) (λ e. omega arith) in
      ap halves_of last ∙ round_again 4 h.at2 h.at8 h.at4 h.at6 f.at4 f.at6 ∙ rw k

  halves_again : h.at0 % 8 ≤ 4 → halves_of (polygon_of h) ≡ kept h
  halves_again k = by (h.at0 % 8) refl k
    where
      by : (kind : ℕ) → h.at0 % 8 ≡ kind → kind ≤ 4 → halves_of (polygon_of h) ≡ kept h
      by zero e below = triangle_again e
      by (suc zero) e below = sphere_again e
      by (suc (suc zero)) e below = capsule_again e
      by (suc (suc (suc zero))) e below = box_again e
      by (suc (suc (suc (suc zero)))) e below = cylinder_again e
      by (suc (suc (suc (suc (suc n))))) e below = absurd (omega arith)

-- A record of a known kind, read and written again: `kept` says which of its bytes are dropped.
pub record_again : (bytes : List ℕ) (k : ℕ) → HalvesFit (halves_at bytes k) → (halves_at bytes k).at0 % 8 ≤ 4
    → polygon_bytes (polygon_at bytes k) ≡ halves_bytes (kept (halves_at bytes k))
unfolding polygon_at polygon_bytes
record_again bytes k f known = ap halves_bytes (halves_again (halves_at bytes k) f known)

-- ---- over bytes

all_kept : (h : Halves) → h.at0 % 8 ≡ 0 → kept h ≡ h
unfolding kept
all_kept h e = rw e

module _ (bytes : List ℕ) (each : (i : ℕ) → get_or bytes i 0 < 256) where
  two_lt : (k : ℕ) → le_at 2 bytes k < 65536
  unfolding le_at
  two_lt k = omega (arith, each k, each (k + 1))

  pub bytes_fit : (k : ℕ) → HalvesFit (halves_at bytes k)
  unfolding halves_at
  bytes_fit k =
      record {
        at0 = two_lt k;
        at2 = two_lt (k + 2);
        at4 = two_lt (k + 4);
        at6 = two_lt (k + 6);
        at8 = two_lt (k + 8);
        at10 = two_lt (k + 10);
        at12 = two_lt (k + 12);
        at14 = two_lt (k + 14);
      }

  -- Bytes that were read as a number are its bytes.
  le_again : (size k : ℕ) → k + size ≤ length bytes → little_endian size (le_at size bytes k) ≡ take size (drop k bytes)
  unfolding little_endian le_at
  le_again zero k h = refl
  le_again (suc size) k h =
      let b = get_or bytes k 0 in
      let n = le_at size bytes (k + 1) in
      let low : (b + 256 * n) % 256 ≡ b = omega (arith, each k) in
      let high : (b + 256 * n) / 256 ≡ n = omega (arith, each k) in
      let rest = ap (little_endian size) high ∙ le_again size (k + 1) (omega arith) in
      ap₂ (λ (x : ℕ) (l : List ℕ). x ∷ l) low rest ∙ ap (take (suc size)) (sym (rest_one bytes k (omega arith)))

  four_whole : (k j : ℕ) → k + (j + 8) ≤ length bytes
      → four_bytes (le_at 2 bytes (k + j)) (le_at 2 bytes (k + (j + 2))) (le_at 2 bytes (k + (j + 4))) (le_at 2 bytes (k + (j + 6)))
      ≡ take 8 (drop j (drop k bytes))
  unfolding four_bytes
  four_whole k j h =
      let l = drop j (drop k bytes) in
      let first = le_again 2 (k + j) (omega arith) ∙ ap (take 2) (sym (drop-drop j k bytes)) in
      let two = ap₂ (λ (a b : List ℕ). a ++ b) first (part 2 (omega arith)) ∙ sym (take-add 2 2 l) in
      let three = ap₂ (λ (a b : List ℕ). a ++ b) two (part 4 (omega arith)) ∙ sym (take-add 4 2 l) in
      ap₂ (λ (a b : List ℕ). a ++ b) three (part 6 (omega arith)) ∙ sym (take-add 6 2 l)
    where
      part : (i : ℕ) → k + (j + i) + 2 ≤ length bytes → little_endian 2 (le_at 2 bytes (k + (j + i))) ≡ take 2 (drop i (drop j (drop k bytes)))
      part i b = le_again 2 (k + (j + i)) b ∙ ap (take 2) (sym (drop-drop i j (drop k bytes) ∙ drop-drop (j + i) k bytes))

  record_whole : (k : ℕ) → k + 16 ≤ length bytes → halves_bytes (halves_at bytes k) ≡ take 16 (drop k bytes)
  unfolding halves_bytes halves_at
  record_whole k h =
      let first =
      ap (λ (n : ℕ). four_bytes (le_at 2 bytes n) (le_at 2 bytes (k + 2)) (le_at 2 bytes (k + 4)) (le_at 2 bytes (k + 6))) (sym (add-zero k))
      ∙ four_whole k 0 (omega arith) in
      ap₂ (λ (a b : List ℕ). a ++ b) first (four_whole k 8 (omega arith)) ∙ sym (take-add 8 8 (drop k bytes))

  -- A record of a known kind, read and written again, is the record with its unused bytes cleared.
  pub write_after_read : (k : ℕ) → kind_at bytes k ≤ 4 → polygon_bytes (polygon_at bytes k) ≡ halves_bytes (kept (halves_at bytes k))
  write_after_read k known = record_again bytes k (bytes_fit k) (subst (λ (n : ℕ). n ≤ 4) (sym (kind_read bytes k)) known)

  -- Of a triangle none is unused.
  pub triangle_whole : (k : ℕ) → kind_at bytes k ≡ 0 → k + 16 ≤ length bytes → polygon_bytes (polygon_at bytes k) ≡ take 16 (drop k bytes)
  triangle_whole k e h =
      write_after_read k (omega arith) ∙ ap halves_bytes (all_kept (halves_at bytes k) (kind_read bytes k ∙ e)) ∙ record_whole k h

-- ---- the entry point

pub kind_written : (p : Polygon) (rest : List ℕ) → kind_at (polygon_bytes p ++ rest) 0 ≤ 4
unfolding polygon_bytes halves_bytes four_bytes little_endian triangle_halves round_halves box_halves
kind_written (Triangle area nan v1 v2 v3 e1 e2 e3) rest = omega arith
kind_written (Sphere index radius nan) rest = omega arith
kind_written (Capsule i1 i2 radius nan) rest = omega arith
kind_written (Box i1 i2 i3 i4) rest = omega arith
kind_written (Cylinder i1 i2 radius nan) rest = omega arith

-- What `read` answers to what `write` has written.
pub read_after_write : (p : Polygon) (rest : List ℕ) → PolygonFits p → read_of (polygon_bytes p ++ rest) ≡ Ok (canonical p)
unfolding read_of
read_after_write p rest f =
    let long : 16 ≤ length (polygon_bytes p ++ rest) = omega (arith, length-append (polygon_bytes p) rest, (polygon_bytes_lem p).size) in
    ap₂ (λ (short unknown : Bool). cond short (Err ShortRecord) (cond unknown (Err UnknownKind) (Ok (polygon_at (polygon_bytes p ++ rest) 0))))
    (le-ltb _ _ long) (le-ltb _ _ (kind_written p rest))
    ∙ ap Ok (polygon_back [] rest 0 p refl f)
