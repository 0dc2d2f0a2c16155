-- The query as it is compared with a record's eight numbers (rule W2). Definitions only.
use Rattle.std.specs.Prelude.{◌≡◌, ℤ, pos, negsuc}
use Rattle.walk_steps.specs.declared.boxes.Lanes.{Lanes}
use Rattle.walk_steps.specs.declared.boxes.Query.{Query}

-- −1 − v: it turns the order round
abbrev pub flip : ℤ → ℤ
flip (pos n) = negsuc n
flip (negsuc n) = pos n

-- The query that lanes stand for.
unfoldable pub plain_of : Lanes → Query
plain_of q =
    record {
      min = record { 0 = flip q.low.0; 1 = flip q.low.1; 2 = flip q.low.2 };
      max = record { 0 = q.high.0; 1 = q.high.1; 2 = q.high.2 };
    }

-- No number of a record is above the last two lanes.
pub record Topped (q : Lanes) : Type 0 where
  pub first_top : q.first ≡ pos 32767
  pub second_top : q.second ≡ pos 32767
