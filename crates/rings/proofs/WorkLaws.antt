-- The work of rule S5 is bounded: `each_first` takes each triple once, and 64 normals, which is as many as a vertex has, have 41,664 of them.
use Prim.Native.Nat.{ℕ, zero, suc, ◌+◌, ◌-◌, ◌/◌, ◌≤◌}
use native.Mathlib.Omega.{arith}
use mathlib.Core.Path.{◌≡◌, refl, sym, ap, ap₂, subst, ◌∙◌}
use mathlib.Core.List.{List, [], ◌∷◌, ◌++◌}
use lib.ListN.{length, length-append, length-map}
use Rattle.math.specs.declared.vec3.Vec3.{Vec3}
use Rattle.rings.specs.declared.moving.Push.{Push}
use Rattle.rings.specs.Meshes.{Mesh, normal_in, around}
use Rattle.rings.specs.Moving.{triple_of, each_third, each_second, each_first}
use Rattle.rings.specs.Rings.{ring_of}
use Rattle.rings.specs.Triples.{Triple, with_two, with_one, triples_of, over_triples}
use Rattle.rings.proofs.VertexLaws.{ring_few}

-- ---- each triple is taken once

module _ (m : Push) where
  over_append : (best : Vec3) (ts us : List Triple) → over_triples m best (ts ++ us) ≡ over_triples m (over_triples m best ts) us
  over_append best [] us = refl
  over_append best (t ∷ ts) us = over_append (triple_of m t.first t.second best t.third) ts us

  each_third_is : (a b best : Vec3) (ns : List Vec3) → each_third m a b best ns ≡ over_triples m best (with_two a b ns)
  each_third_is a b best [] = refl
  each_third_is a b best (c ∷ ns) = each_third_is a b (triple_of m a b best c) ns

  each_second_is : (a best : Vec3) (ns : List Vec3) → each_second m a best ns ≡ over_triples m best (with_one a ns)
  each_second_is a best [] = refl
  each_second_is a best (b ∷ ns) =
      each_second_is a (each_third m a b best ns) ns
      ∙ ap (λ (v : Vec3). over_triples m v (with_one a ns)) (each_third_is a b best ns)
      ∙ sym (over_append best (with_two a b ns) (with_one a ns))

  -- Rule S5: the best of all triples is found by taking each of them once.
  pub each_first_is : (best : Vec3) (ns : List Vec3) → each_first m best ns ≡ over_triples m best (triples_of ns)
  each_first_is best [] = refl
  each_first_is best (a ∷ ns) =
      each_first_is (each_second m a best ns) ns
      ∙ ap (λ (v : Vec3). over_triples m v (triples_of ns)) (each_second_is a best ns)
      ∙ sym (over_append best (with_one a ns) (triples_of ns))

-- ---- how many there are

abbrev pairs : ℕ → ℕ
pairs zero = 0
pairs (suc n) = n + pairs n

abbrev threes : ℕ → ℕ
threes zero = 0
threes (suc n) = pairs n + threes n

length_two : (a b : Vec3) (ns : List Vec3) → length (with_two a b ns) ≡ length ns
length_two a b [] = refl
length_two a b (c ∷ ns) = ap suc (length_two a b ns)

length_one : (a : Vec3) (ns : List Vec3) → length (with_one a ns) ≡ pairs (length ns)
length_one a [] = refl
length_one a (b ∷ ns) = length-append (with_two a b ns) (with_one a ns) ∙ ap₂ ◌+◌ (length_two a b ns) (length_one a ns)

length_triples : (ns : List Vec3) → length (triples_of ns) ≡ threes (length ns)
length_triples [] = refl
length_triples (a ∷ ns) = length-append (with_one a ns) (triples_of ns) ∙ ap₂ ◌+◌ (length_one a ns) (length_triples ns)

threes_up : (n d : ℕ) → threes n ≤ threes (n + d)
threes_up n zero = let e : n + 0 ≡ n = omega arith in let same : threes (n + 0) ≡ threes n = ap threes e in omega arith
threes_up n (suc d) =
    let e : n + suc d ≡ suc (n + d) = omega arith in
    let more : threes (n + suc d) ≡ pairs (n + d) + threes (n + d) = ap threes e in
    omega (arith, threes_up n d)

-- by computing
threes_of_64 : threes 64 ≡ 41664
threes_of_64 = refl

-- Rule S4: a vertex has at most 64 normals, its first polygon's and its ring's.
pub few_normals : (mesh : Mesh) (i s : ℕ) → length (normal_in mesh (s / 3) ∷ around mesh i s) ≤ 64
few_normals mesh i s =
    let ring = ring_of mesh.corners mesh.links i s in
    omega (arith, length-map ring (normal_in mesh), ring_few mesh.corners mesh.links i s)

-- Rule S5: so at most 41,664 triples, over any mesh.
pub few_triples : (mesh : Mesh) (i s : ℕ) → length (triples_of (normal_in mesh (s / 3) ∷ around mesh i s)) ≤ 41664
few_triples mesh i s =
    let ns = normal_in mesh (s / 3) ∷ around mesh i s in
    let up : length ns + (64 - length ns) ≡ 64 = omega (arith, few_normals mesh i s) in
    let most = subst (λ (k : ℕ). threes (length ns) ≤ threes k) up (threes_up (length ns) (64 - length ns)) in
    omega (arith, length_triples ns, most, threes_of_64)
