-- Stored points, in words. Definitions only.
use Rattle.std.specs.Float.{binary32}
use Rattle.std.specs.Float.Ieee.{of_bits, to_bits}
use Rattle.float32.specs.Extremes.{vmin_word, vmax_word}
use Rattle.math.specs.declared.vec3.Vec3.{Vec3}
use Rattle.math.specs.declared.words3.Words3.{Words3}

-- the point that the words stand for, and the words of a point
abbrev pub values_of : Words3 → Vec3
values_of w = record { x = of_bits binary32 w.x; y = of_bits binary32 w.y; z = of_bits binary32 w.z }

abbrev pub bits_of : Vec3 → Words3
bits_of v = record { x = to_bits binary32 v.x; y = to_bits binary32 v.y; z = to_bits binary32 v.z }

-- Rule V9 (01: a copied NaN keeps its bits): rule F4 axis by axis.
abbrev pub vmin_words_of : Words3 → Words3 → Words3
vmin_words_of a b = record { x = vmin_word a.x b.x; y = vmin_word a.y b.y; z = vmin_word a.z b.z }

abbrev pub vmax_words_of : Words3 → Words3 → Words3
vmax_words_of a b = record { x = vmax_word a.x b.x; y = vmax_word a.y b.y; z = vmax_word a.z b.z }
