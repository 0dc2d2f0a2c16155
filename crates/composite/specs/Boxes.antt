-- Rule C2: the children's boxes as bytes, and what `child_boxes` answers (01, composites; bounds.rs, Aabb, Composite::prepare). Definitions only.
use Rattle.std.specs.Prelude.{◌≡◌, ℕ, zero, suc, ◌+◌, ◌*◌, Bool, cond, ◌||◌, List, [], ◌++◌, length, replicate, nat_lt, ⊤, Result, Ok, Err}
use Rattle.base.specs.Lists.{over}
use Rattle.base.specs.LittleEndian.{little_endian}
use Rattle.math.specs.declared.words3.Words3.{Words3}
use Rattle.composite.specs.Children.{is_present, box_of, margin_of}
use Rattle.composite.specs.declared.boxes.ChildBoxesRefusal.{ChildBoxesRefusal}
use Rattle.composite.specs.declared.boxes.ChildBoxesRefusal.TheVariants.{TooManyChildren, BufferTooShort}

-- a point's three words, and a fourth
unfoldable pub row_bytes : Words3 → ℕ → List ℕ
row_bytes p w = little_endian 4 p.x ++ little_endian 4 p.y ++ little_endian 4 p.z ++ little_endian 4 w

-- Rule C2 (01: "child boxes of 32 bytes, min with w bits 1, max with margin, absent all zero"): words are copied.
unfoldable pub child_bytes : List ℕ → ℕ → List ℕ
child_bytes ws k =
    cond (is_present ws k) (row_bytes (box_of ws k).min 1 ++ row_bytes (box_of ws k).max (margin_of ws k)) (replicate 32 0)

-- the boxes of the n children from number `at` on
abbrev pub children_bytes : List ℕ → ℕ → ℕ → List ℕ
children_bytes ws at zero = []
children_bytes ws at (suc n) = child_bytes ws at ++ children_bytes ws (at + 1) n

-- 01, child boxes, 2: 24 words a child, 32 bytes a child box; by the buffers' lengths.
abbrev pub short : ℕ → ℕ → ℕ → Bool
short n given room = nat_lt given (24 * n) || nat_lt room (32 * n)

-- what is answered: that the boxes are written, or why they are not
abbrev pub ChildBoxes : Type 0
ChildBoxes = Result ⊤ ChildBoxesRefusal

-- Rule C2 (01, child boxes): the checks in the order written.
unfoldable pub boxes_of : ℕ → ℕ → ℕ → ChildBoxes
boxes_of n given room = cond (nat_lt 32767 n) (Err TooManyChildren) (cond (short n given room) (Err BufferTooShort) (Ok tt))

-- 01's number for each reason
abbrev pub refusal_number : ChildBoxesRefusal → ℕ
refusal_number TooManyChildren = 1
refusal_number BufferTooShort = 2

-- 01's number for each answer, 0 where it is not refused
abbrev pub number_of : ChildBoxes → ℕ
number_of (Ok done) = 0
number_of (Err why) = refusal_number why

-- what the output holds at the end: on a refusal what it had
abbrev pub kept : ChildBoxes → List ℕ → List ℕ → List ℕ
kept (Ok done) written before = over written before
kept (Err why) written before = before

-- Rule C2: the answer, and every byte of the output.
pub record Boxed (n : ℕ) (ws before after : List ℕ) (r : ChildBoxes) : Type 0 where
  pub answer : r ≡ boxes_of n (length ws) (length before)
  pub bytes : after ≡ kept r (children_bytes ws 0 n) before

-- Rule C2, of the answer's number.
pub record BoxedBy (n : ℕ) (ws before after : List ℕ) (r : ℕ) : Type 0 where
  pub number : r ≡ number_of (boxes_of n (length ws) (length before))
  pub bytes : after ≡ kept (boxes_of n (length ws) (length before)) (children_bytes ws 0 n) before
