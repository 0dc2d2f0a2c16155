-- `text::put_signed` meets its contract: the number's 16 bits in two's complement are below 32768 where it is not below 0.
use Rattle.std.specs.Prelude.{◌≡◌}
use Rattle.float32.specs.Casts.{low16bits}
use Rattle.records.proofs.Fields.{short_read}
use Rattle.listing.proofs.Decimals.{bits_read, not_below, below_zero, bits_few}
use Rattle.listing.proofs.Putting.{put_as, put_then}
use native.Mathlib.Omega.{arith}
use Rattle.listing.proofs.text.put_signed.Goals as goal

pub overflow_cast-v : goal.overflow_cast-v
overflow_cast-v c = short_read c.ranges.v

pub returns-then-bits-lt32768 : goal.returns-then-bits-lt32768
returns-then-bits-lt32768 c =
    let bits_are : c.low_bits-bits.result ≡ low16bits c.args.v = bits_read c.ranges.v c.low_bits-bits.ensures in
    put_as (not_below c.args.v _ c.ranges.v bits_are (omega arith)) (omega arith) c.put_decimal.ensures

pub overflow_sub-bits : goal.overflow_sub-bits
overflow_sub-bits c =
    let bits_are : c.low_bits-bits.result ≡ low16bits c.args.v = bits_read c.ranges.v c.low_bits-bits.ensures in
    omega (arith, bits_few c.args.v bits_are)

pub returns : goal.returns
returns c =
    let bits_are : c.low_bits-bits.result ≡ low16bits c.args.v = bits_read c.ranges.v c.low_bits-bits.ensures in
    put_as (below_zero c.args.v _ c.ranges.v bits_are (omega arith)) (omega arith)
    (put_then c.put_byte-digits.ensures c.put_decimal-2.ensures)
