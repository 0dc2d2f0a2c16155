-- `text::put_text` meets its contract: the text is copied into the part from `at` on.
use Rattle.listing.proofs.Putting.{copied}
use Rattle.listing.proofs.text.put_text.Goals as goal

pub returns : goal.returns
returns c = copied c.args.out.now c.args.text.now _ c.args.at c.requires c.copy_from_slice.ensures.after
