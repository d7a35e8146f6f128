-- How often a frame is referred to whose reference word was found to have an owner.
use Rattle.std.proofs.Common.{◌≡◌, ℕ, ◌<◌, ◌≤◌, Bool, None, Some, subst}
use Rattle.xp_words.specs.Places.{sizes_of}
use Rattle.xp_words.specs.RefWords.{IsRef, ref_read}
use Rattle.xp_words.specs.declared.place.Place.TheVariants.{Refs}
use Rattle.xp_words.specs.declared.refs.RefWord.TheVariants.{Owned}
use Rattle.xp_words.proofs.RefLaws.{ref_write-read}
use Rattle.xp_board.specs.Spelling.{IsSpelling}
use Rattle.xp_board.specs.Told.{PortValue}
use Rattle.xp_board.specs.declared.step.Act.TheVariants.{Load}
use Rattle.xp_board.specs.declared.step.StepKind.TheVariants as kinds
use Rattle.xp_board.proofs.Numbers.{refs_there}
use Rattle.xp_board.proofs.RefWords.{owned_fits, read_small}
use Rattle.step_maker.specs.Moves.{Moves}

pub some_count : (w owner count : ℕ) (allocated : Bool) → ref_read w ≡ Some (Owned owner allocated count) → 1 ≤ count
unfolding IsRef
some_count w owner count allocated read = (ref_write-read w (Owned owner allocated count) (read_small w _ read) read).0.1

pub within_limit : {v u : PortValue} {f word owner count : ℕ} {allocated : Bool} → Moves v u (Refs f) Load kinds.Look None word → f < v.post.machine.frames → ref_read word ≡ Some (Owned owner allocated count) →
    count ≤ v.post.machine.limit
unfolding IsSpelling
within_limit {v} {u} {f} {word} {owner} {count} {allocated} look real read =
    let spelled = subst (IsSpelling v.post.machine (Refs f)) look.finds.word (look.finds.sound.spelled.spelled (Refs f) (refs_there (sizes_of v.post.machine) f real)) in
    (owned_fits v.post.machine owner count allocated (rw read at spelled)).1
