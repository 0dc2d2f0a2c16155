-- A vertex and its ring: the first side and the ring lie in the mesh, and the gathered normals are those of the definition.
use mathlib.Core.Bool.{Bool, true, false, cond}
use Prim.Native.Nat.{ℕ, zero, suc, ◌+◌, ◌-◌, ◌*◌, ◌/◌, ◌≤◌, ◌<◌}
use native.Mathlib.Omega.{arith}
use mathlib.Core.Path.{◌≡◌, refl, sym, ap, ap₂, subst, ◌∙◌}
use mathlib.Core.Logic.{⊎_elim}
use mathlib.Core.List.{List, [], ◌∷◌, map}
use lib.Dec.{eqb}
use lib.ListN.{length, get_or}
use lib.Seq.{get_or-take}
use lib.Ieee.{Float}
use borrow.Author.Tests.{eqb-false, ne_eqb, eq-eqb}
use Rattle.math.specs.declared.vec3.Vec3.{Vec3}
use Rattle.rings.specs.declared.ring.Walker.{Walker}
use Rattle.corners.specs.Corners.{none}
use Rattle.rings.specs.Firsts.{no_side, first_side}
use Rattle.rings.specs.Meshes.{Mesh, normal_in, shrunk_at, shrunk_by}
use Rattle.rings.specs.Moving.{moved_of}
use Rattle.rings.specs.Rings.{onward, ring_from, first_link, ring_of}
use Rattle.rings.specs.Steps.Gathering.{Gathered, Movable}
use Rattle.rings.specs.Steps.Stored.{normal_at, normals_from, Linked, Neighbour, Begins}
use Rattle.points.specs.Points.{vertex_at}
use Rattle.rings.proofs.RingLaws.{first_place, onward_place}
use Rattle.rings.proofs.SideLaws.{first_in}

-- ---- the ring is of the mesh's polygons, at most 63

module _ {corners links : List ℕ} {n : ℕ} (fits : Linked corners links n) (v poly : ℕ) where
  from_within : (left : ℕ) (w : Walker) → Neighbour n w.at → (k : ℕ) → k < length (ring_from corners links v poly left w)
      → get_or (ring_from corners links v poly left w) k 0 < n
  unfolding ring_from
  from_within zero w p k h = absurd (omega arith)
  from_within (suc left) w p k h = go (from_within left (onward corners links v poly w)) (eqb w.at none) refl k h
    where
      here : (w.at ≡ none → ⊥) → w.at < n
      here d = ⊎_elim (λ e. absurd (d e)) (λ l. l) p

      go : (Neighbour n (onward corners links v poly w).at → (k : ℕ) → k < length (ring_from corners links v poly left (onward corners links v poly w))
          → get_or (ring_from corners links v poly left (onward corners links v poly w)) k 0 < n)
          → (b : Bool) → eqb w.at none ≡ b → (k : ℕ) → k < length (cond b [] (w.at ∷ ring_from corners links v poly left (onward corners links v poly w)))
          → get_or (cond b [] (w.at ∷ ring_from corners links v poly left (onward corners links v poly w))) k 0 < n
      go rest true e k h = absurd (omega arith)
      go rest false e zero h = here (eqb-false w.at none e)
      go rest false e (suc k) h = rest (onward_place fits v poly w (here (eqb-false w.at none e))) k (omega arith)

pub ring_within : {corners links : List ℕ} {n : ℕ} → Linked corners links n → (v s : ℕ) → s < 3 * n → (k : ℕ) → k < length (ring_of corners links v s)
    → get_or (ring_of corners links v s) k 0 < n
unfolding ring_of
ring_within {corners} {links} fits v s h = from_within fits v (s / 3) 63 (record { prev = s / 3; at = first_link links s }) (first_place fits s h)

module _ (corners links : List ℕ) (v poly : ℕ) where
  from_few : (left : ℕ) (w : Walker) → length (ring_from corners links v poly left w) ≤ left
  unfolding ring_from
  from_few zero w = omega arith
  from_few (suc left) w = go (from_few left (onward corners links v poly w)) (eqb w.at none)
    where
      go : length (ring_from corners links v poly left (onward corners links v poly w)) ≤ left → (b : Bool)
          → length (cond b [] (w.at ∷ ring_from corners links v poly left (onward corners links v poly w))) ≤ suc left
      go rest true = omega arith
      go rest false = omega arith

-- Rule S4: a ring has at most 63 polygons, over any corners and links.
pub ring_few : (corners links : List ℕ) (v s : ℕ) → length (ring_of corners links v s) ≤ 63
unfolding ring_of
ring_few corners links v s = from_few corners links v (s / 3) 63 (record { prev = s / 3; at = first_link links s })

-- ---- the gathered normals

normals_map : (fs : List Float) (g : ℕ → Vec3) (xs : List ℕ) (i : ℕ) → ((k : ℕ) → k < length xs → normal_at fs (i + k) ≡ g (get_or xs k 0))
    → normals_from fs i (length xs) ≡ map g xs
normals_map fs g [] i h = refl
normals_map fs g (x ∷ xs) i h =
    let first : i ≡ i + 0 = omega arith in
    ap₂ (λ (p : Vec3) (ps : List Vec3). p ∷ ps) (ap (normal_at fs) first ∙ h 0 (omega arith))
    (normals_map fs g xs (i + 1) (λ k l. let at : i + 1 + k ≡ i + suc k = omega arith in ap (normal_at fs) at ∙ h (suc k) (omega arith)))

module _ {normals : List Float} {poly : ℕ} {xs ring : List ℕ} {count : ℕ} {ns : List Float} (b : Begins xs ring count) (g : Gathered normals poly ring count ns)
    (want : ℕ → Vec3) (n : ℕ) (right : (p : ℕ) → p < n → normal_at normals p ≡ want p) where
  pub own_normal : poly < n → normal_at ns 0 ≡ want poly
  own_normal h = g.normals_are 0 (omega arith) ∙ right poly h

  member : (k : ℕ) → k < count → get_or ring k 0 ≡ get_or xs k 0
  member k h = sym (get_or-take count ring k 0 h) ∙ ap (λ (l : List ℕ). get_or l k 0) b.numbers

  pub ring_normals : ((k : ℕ) → k < length xs → get_or xs k 0 < n) → normals_from ns 1 (count + 1 - 1) ≡ map want xs
  ring_normals h =
      let all : count + 1 - 1 ≡ length xs = omega (arith, b.count) in
      ap (normals_from ns 1) all
      ∙ normals_map ns want xs 1
      (λ k l.
      let next : 1 + k ≡ suc k = omega arith in
      ap (normal_at ns) next ∙ g.normals_are (suc k) (omega (arith, b.count)) ∙ ap (normal_at normals) (member k (omega (arith, b.count)))
      ∙ right (get_or xs k 0) (h k l))

-- what is written of a ring lies in the mesh too
pub written_within : {xs ring : List ℕ} {count : ℕ} → Begins xs ring count → (n : ℕ) → ((k : ℕ) → k < length xs → get_or xs k 0 < n) → (k : ℕ) → k < count
    → get_or ring k 0 < n
written_within {xs} {ring} {count} b n h k l =
    subst (λ (x : ℕ). x < n) (sym (sym (get_or-take count ring k 0 l) ∙ ap (λ (l : List ℕ). get_or l k 0) b.numbers)) (h k (omega (arith, b.count)))

-- ---- rules S3 and S5 by the side

module _ (mesh : Mesh) (by : Float) (i s : ℕ) (side : s ≡ first_side mesh.corners i (3 * mesh.n)) where
  abbrev pushed : Vec3
  pushed =
      moved_of (record { from = vertex_at mesh.vertices i; by = by }) (normal_in mesh (s / 3))
      (map (normal_in mesh) (ring_of mesh.corners mesh.links i s))

  pub stays : s ≡ no_side → vertex_at mesh.vertices i ≡ shrunk_at mesh by i
  unfolding shrunk_at
  stays e = ap (λ (t : Bool). cond t (vertex_at mesh.vertices i) pushed) (sym (eq-eqb s no_side e)) ∙ ap (shrunk_by mesh by i) side

  pub moves : (s ≡ no_side → ⊥)
      → moved_of (record { from = vertex_at mesh.vertices i; by = by }) (normal_in mesh (s / 3))
      (map (normal_in mesh) (ring_of mesh.corners mesh.links i s)) ≡ shrunk_at mesh by i
  unfolding shrunk_at
  moves e = ap (λ (t : Bool). cond t (vertex_at mesh.vertices i) pushed) (sym (ne_eqb s no_side e)) ∙ ap (shrunk_by mesh by i) side

  pub side_in : (s ≡ no_side → ⊥) → s < 3 * mesh.n
  side_in e = ⊎_elim (λ none. absurd (e (side ∙ none))) (λ h. omega (arith, side)) (first_in mesh.corners i (3 * mesh.n))

-- ---- what moving asks, of work that was written over

pub movable_again : {mesh : Mesh} {firsts : List ℕ} {normals : List Float} {ring : List ℕ} {ns : List Float} → Movable mesh firsts normals ring ns
    → (ring' : List ℕ) (ns' : List Float) → length ring' ≡ length ring → length ns' ≡ length ns → Movable mesh firsts normals ring' ns'
movable_again m ring' ns' e f =
    record {
      linked = m.linked;
      vertices_in = m.vertices_in;
      few = m.few;
      firsts_in = m.firsts_in;
      firsts_are = m.firsts_are;
      normals_in = m.normals_in;
      normals_are = m.normals_are;
      ring_room = omega (arith, m.ring_room);
      normal_room = omega (arith, m.normal_room);
    }
