-- House matter: the words of the finders in six modes, with the fields of those of the older ones (`words/specs/Words.antt`).
use Rattle.std.specs.Prelude.{ℕ, ◌+◌, ◌*◌, ◌^◌, ◌<◌}
use Rattle.finding.specs.Finder as Finder
use Rattle.finding.specs.Finder.{Channel, none, p1, p2, pids}
use Rattle.finding_px.specs.Finder as FinderPX
use Rattle.finding_px.specs.Finder.{Content, none as nothing, coded, fill, second, zeros}

-- the channels of PM by number, and what stands in a cell of PX1 or PX2
abbrev pub channel_number : Channel → ℕ
channel_number none = 0
channel_number p1 = 1
channel_number pids = 2
channel_number p2 = 5

abbrev pub content_number : Content → ℕ
content_number nothing = 0
content_number coded = 1
content_number fill = 2
content_number second = 3
content_number zeros = 4

-- place, frame and bit of a finding in PM fit their fields; and of one in PX1 or PX2
abbrev pub SmallFound : Finder.Values → Type 0
SmallFound v = (v.place < 2 ^ 8) × (v.frame < 2 ^ 8) × (v.bit < 2 ^ 24)

unfoldable pub found_in_word : Finder.Values → ℕ
found_in_word v = v.number + 2 ^ 8 * channel_number v.channel + 2 ^ 16 * v.frame + 2 ^ 32 * v.place + 2 ^ 40 * v.bit

abbrev pub SmallFoundPX : FinderPX.Values → Type 0
SmallFoundPX v = (v.place < 2 ^ 8) × (v.frame < 2 ^ 8) × (v.before < 2 ^ 8) × (v.bit < 2 ^ 24)

unfoldable pub found_px_in_word : FinderPX.Values → ℕ
found_px_in_word v = v.number + 2 ^ 8 * content_number v.content + 2 ^ 16 * v.frame + 2 ^ 24 * v.before + 2 ^ 32 * v.place + 2 ^ 40 * v.bit
