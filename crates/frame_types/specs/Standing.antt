-- How a frame stands to a type.
use Rattle.std.specs.Prelude.{◌==◌, not, if◌then◌else◌, Bool}
use Rattle.xp_words.specs.PageTypes.{type_number}
use Rattle.xp_words.specs.declared.kind.KindWord.{KindWord}
use Rattle.xp_words.specs.declared.kind.PageType.{PageType}
use Rattle.xp_board.specs.Readings.{is_dead}
use Rattle.frame_types.specs.declared.standing.Standing.{Standing}
use Rattle.frame_types.specs.declared.standing.Standing.TheVariants.{Counted, Dead, Partial, Busy, Other}

abbrev pub is_same_type : PageType → PageType → Bool
is_same_type kind want = type_number kind == type_number want

-- validated with type counts, dead, partial, in somebody's work or closing, or of another type
abbrev pub standing_of : KindWord → PageType → Standing
standing_of k want =
    if is_dead k then Dead
    else if not (is_same_type k.kind want) then Other
    else if k.validated then (if k.number == 0 then Busy else Counted)
    else if k.partial then Partial
    else Busy
