-- 10.4.2.3 and 10.4.2.4 for one coded bit of P1', whose frames have a matrix each: the number i that it has in its frame, k, the position in the frame's
-- matrix, and the cell, counted through the eight. Row 0 of Tables 10-17 and 10-19 is MP5, and row 1 is MP6.
use Rattle.std.specs.Prelude.{ℕ, ◌+◌, ◌*◌, ◌/◌, ◌%◌}
use Rattle.interleaving.specs.EquationsI as I
use Rattle.interleaving.specs.PX2.{partitions, blocks, columns, runs, order, frame_bits, place}
use Rattle.locating.specs.declared.writing.Writing.{Writing}

unfoldable pub p1'_writing : (row frame bit : ℕ) → Writing
p1'_writing row frame bit =
    record {
      step = bit;
      k = I.k_of (partitions row) blocks columns (runs row) (order row) bit;
      position = I.position (partitions row) blocks columns (runs row) (order row) bit;
      cell = place row (frame * frame_bits row + bit);
    }

-- for the code alone: a bit of the number k in the block b and the partition p, by the cell at which its matrix begins and the cells of a row
abbrev pub written : (i k b p start width : ℕ) → Writing
written i k b p start width =
    record {
      step = i;
      k = k;
      position = record { block = b; row = k * 11 % 32; partition = p; column = (k * 11 + k / 288) % 36 };
      cell = start + ((32 * b + k * 11 % 32) * width + (36 * p + (k * 11 + k / 288) % 36));
    }
