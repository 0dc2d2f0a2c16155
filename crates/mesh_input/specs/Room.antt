-- The lengths of the buffers that a mesh of an input is prepared in. Definitions only.
use Rattle.std.specs.Prelude.{◌*◌}
use Rattle.meshes.specs.declared.Counts.{Counts}
use Rattle.meshes.specs.declared.Lengths.{Lengths}

-- Records and numbers are lent as they stand in the input, all else in arrays (dumping).
abbrev pub lent : Counts → Lengths
lent c =
    record {
      polygons = 16 * c.polygons;
      numbers = c.polygons;
      mats = 2048;
      vertices = 2048;
      list = 2048;
      indices = 512;
      polygons_out = 8192;
      stored = 4096;
      floats = 2048;
      shrunk = 4096;
      shrunk_floats = 2048;
      octants = 5376;
      node_bytes = 15360;
      tree_bytes = 15360;
      order = 512;
      entries = 3328;
      places = 2048;
      temp = 1536;
      stack = 1536;
      rows = 7680;
      points = 2048;
      sorted = 512;
      centres = 1920;
      olds = 4352;
      news = 4352;
    }
