-- `halves::put_halves` meets its contract: two runs of eight stores are one run of 16.
use Rattle.base.proofs.StoreLaws.{store_next}
use Rattle.polygon.specs.Halves.{four_bytes, halves_bytes}
use Rattle.polygon.proofs.Sizes.{four_bytes_lem}
use Rattle.polygon.proofs.halves.put_halves.Goals as goal

pub returns : goal.returns
unfolding halves_bytes
returns c =
    let out = c.args.out.now in
    let h = c.args.h in
    store_next out (four_bytes h.at0 h.at2 h.at4 h.at6) (four_bytes h.at8 h.at10 h.at12 h.at14) c.args.at 8
    (four_bytes_lem h.at0 h.at2 h.at4 h.at6).size c.put_four.ensures c.put_four-2.ensures
