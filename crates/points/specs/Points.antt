-- 12.2 and Tables 12-1 and 12-2: constellation values, scaled, in single precision; and a bit from the sign of a part.
use Rattle.std.specs.Prelude.{ℕ, Bool, false, cond, ◌&&◌, eqb, pos, Float}
use Rattle.std.specs.Float.{binary32, inf, fin}
use Rattle.std.specs.Float.Ieee.{fits, neg, lt}
use Rattle.points.specs.declared.Point.{Point}

-- positive zero
abbrev pub zero_part : Float
zero_part = fin false 0 (pos 0)

-- Tables 12-1 and 12-2: the bit 1 stands for 1, the bit 0 for -1
abbrev pub unit : ℕ → Float
unit bit = fin (eqb bit 0) 1 (pos 0)

-- a unit times the scale: the scale or its negation, exactly (`part-is-product` says that the product in single precision is no other)
unfoldable pub part : ℕ → Float → Float
part bit scale = cond (eqb bit 0) (neg scale) scale

-- 12.2.1: the I bit maps to the real component and the Q bit to the imaginary one
unfoldable pub point_of : (i q : ℕ) → Float → Point
point_of i q scale = record { re = part i scale; im = part q scale }

-- 12.1: unused subcarriers are 0 + j0
unfoldable pub no_point : Point
no_point = record { re = zero_part; im = zero_part }

-- of single precision, as every f32 is, finite and above zero
unfoldable pub usable : Float → Bool
usable scale = fits binary32 scale && (lt zero_part scale && lt scale (inf false))

-- the bit that a part stands for, by its sign
unfoldable pub by_sign : Float → ℕ
by_sign x = cond (lt zero_part x) 1 0
