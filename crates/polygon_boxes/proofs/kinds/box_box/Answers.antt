-- `kinds::box_box`: what its calls ensure, on the short way and on the long one.
use Rattle.polygon_boxes.proofs.kinds.box_box.Goals as goal

pub near_words-a-requires : goal.near_words-a-requires
near_words-a-requires c = (c.within_4.ensures c.if-within_4.true).0

pub near_words-b-requires : goal.near_words-b-requires
near_words-b-requires c = (c.within_4.ensures c.if-within_4.true).1

pub near_words-c-requires : goal.near_words-c-requires
near_words-c-requires c = (c.within_4.ensures c.if-within_4.true).2

pub near_words-d-requires : goal.near_words-d-requires
near_words-d-requires c = (c.within_4.ensures c.if-within_4.true).3

pub number_box_4-requires : goal.number_box_4-requires
number_box_4-requires c = c.all_four.ensures c.if-all_four.true

pub returns-then-all_four : goal.returns-then-all_four
returns-then-all_four c = cc

pub returns : goal.returns
returns c = cc
