-- Vertices of which no word is a NaN's. Definitions only.
use Rattle.entries.specs.Plain.{Number}
use Rattle.math.specs.declared.words3.Words3.{Words3}

abbrev pub Numbers : Words3 → Type 0
Numbers w = Number w.x × Number w.y × Number w.z
