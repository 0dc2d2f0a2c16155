-- The triples of rule S5 as a list, so that they can be counted (bounds.rs, shrink_polys_by_margin: the loops over i, j, k). Definitions only.
use Rattle.std.specs.Prelude.{List, [], ◌∷◌, ◌++◌}
use Rattle.math.specs.declared.vec3.Vec3.{Vec3}
use Rattle.rings.specs.declared.moving.Push.{Push}
use Rattle.rings.specs.Moving.{triple_of}

pub record Triple : Type 0 where
  pub first : Vec3
  pub second : Vec3
  pub third : Vec3

-- the triples of a and b with each normal; of a with each two; and of each three, in their order
abbrev pub with_two : Vec3 → Vec3 → List Vec3 → List Triple
with_two a b [] = []
with_two a b (c ∷ ns) = record { first = a; second = b; third = c } ∷ with_two a b ns

abbrev pub with_one : Vec3 → List Vec3 → List Triple
with_one a [] = []
with_one a (b ∷ ns) = with_two a b ns ++ with_one a ns

abbrev pub triples_of : List Vec3 → List Triple
triples_of [] = []
triples_of (a ∷ ns) = with_one a ns ++ triples_of ns

-- Rule S5: one triple after the other, each once.
abbrev pub over_triples : Push → Vec3 → List Triple → Vec3
over_triples m best [] = best
over_triples m best (t ∷ ts) = over_triples m (triple_of m t.first t.second best t.third) ts
