-- The first line of a sheet, case by case. Assumes nothing.
use mathlib.Core.Path.{◌≡◌, sym}
use mathlib.Core.Bool.{Bool, true, false}
use mathlib.Core.List.{[]}
use Rattle.text.specs.Letters.{ascii}
use Rattle.sheettext.specs.Texts.{without, worded}

module _ (without3 without4 : Bool) where
  pub without-both : without3 ≡ true → without4 ≡ true → ascii " without P3 P4" ≡ without without3 without4
  unfolding without
  without-both e f = sym (rw (e, f))

  pub without-p3 : without3 ≡ true → without4 ≡ false → ascii " without P3" ≡ without without3 without4
  unfolding without
  without-p3 e f = sym (rw (e, f))

  pub without-p4 : without3 ≡ false → without4 ≡ true → ascii " without P4" ≡ without without3 without4
  unfolding without
  without-p4 e f = sym (rw (e, f))

  pub without-none : without3 ≡ false → without4 ≡ false → without without3 without4 ≡ []
  unfolding without
  without-none e f = rw (e, f)

module _ (work : Bool) where
  pub with-work : work ≡ true → ascii " work\n" ≡ worded work
  unfolding worded
  with-work e = sym (rw e)

  pub without-work : work ≡ false → ascii "\n" ≡ worded work
  unfolding worded
  without-work e = sym (rw e)
