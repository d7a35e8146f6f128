-- The allocated mark of a frame is taken off, and its reference given back, as the plain one.
use Rattle.std.proofs.Common.{◌≡◌, ℕ, ◌<◌, ◌==◌, ◌&&◌, if◌then◌else◌, Bool, true, false, Option, Some, None, Result, Ok, Err, refl, sym, ap, ◌∙◌, subst}
use Rattle.xp_words.specs.RefWords.{IsRef, ref_read, ref_write}
use Rattle.xp_words.specs.declared.place.Place.{Place}
use Rattle.xp_words.specs.declared.place.Place.TheVariants.{Refs}
use Rattle.xp_words.specs.declared.refs.RefWord.TheVariants.{Owned}
use Rattle.xp_words.specs.declared.reply.Stop.{Stop}
use Rattle.xp_words.proofs.RefLaws.{ref_read-write, ref_write-read}
use Rattle.xp_board.specs.Acts.{left_by}
use Rattle.xp_board.specs.Steps.{is_same}
use Rattle.xp_board.specs.Told.{Post, PortValue, is_telling, told_word}
use Rattle.xp_board.specs.declared.step.Act.TheVariants.{Cas, Load, Store}
use Rattle.xp_board.specs.declared.step.StepKind.TheVariants as kinds
use Rattle.xp_board.proofs.PlaceTests.{equal_refl}
use Rattle.xp_board.proofs.RefWords.{read_small}
use Rattle.xp_board.specs.declared.step.StepKind.{StepKind}
use Rattle.step_maker.specs.Moves.{Moves}
use Rattle.step_maker.specs.Plain.{Leaves, Words, change}
use Rattle.step_maker.proofs.Coming.{moves_came}
use Rattle.step_maker.proofs.Telling.{leaves, load_tells, moves_telling, told_there}
use Rattle.step_maker.proofs.Visiting.{does_came}
use Rattle.course_laws.proofs.Awaiting.{AloneStays}
use Rattle.frame_words.specs.Freeing.{Puts}
use Rattle.frame_words.specs.Plain.{put}
use Rattle.table_law.specs.Plain.{Describes, Plain, Share, at, reference_back, share_in, share_of, with_share}
use Rattle.table_law.proofs.Counting.{at_here}
use Rattle.table_twins.proofs.Sharing.{same_back, shared}
use Rattle.domain_destroy.specs.Clearing as clearing
use Rattle.domain_destroy.specs.Clearing.{GivesMark}
use Rattle.script_law.specs.Destroying.{unallocated}
use Rattle.script_law.specs.Memory.{is_allocated_to, unmarked}
use Rattle.release_laws.proofs.Putting.{puts_words}
use Rattle.solo_ports.proofs.Staying.{put_word}
use Rattle.solo_deaths.specs.Between.{Between}
use Rattle.solo_deaths.proofs.Standing.{between_by, between_looks, telling}
use Rattle.solo_deaths.proofs.Stripping.{not_allocated, not_owned, unallocated_none, unowned_unallocated}

pub stored : (x y : ℕ) → left_by (Store x) y ≡ x
unfolding left_by
stored x y = refl

-- an exchange that found what it expected stores the new word
pub exchanged : {kind : StepKind} → (v w : PortValue) (at : Place) (x new : ℕ) (m : Moves v w at (Cas x new) kind None x) → is_telling v ≡ true → Leaves w (change (Store new) at (told_word v))
unfolding left_by
exchanged v w at x new m telling q =
    leaves v w _ _ _ _ _ m telling q
    ∙ ap (λ b. if is_same q at then (if b then new else told_word v at) else told_word v q) (ap (λ y. y == x) (told_there v w _ _ _ _ _ m telling) ∙ equal_refl x)

-- ---- the allocated mark
module _ (stays : AloneStays) (o : Post) (f : ℕ) (inside : f < o.machine.frames) (d : ℕ) (u : PortValue) (p : Plain) (b : Between o u p) where
  -- it is not there
  left_there : (w : PortValue) (y : ℕ) → Moves u w (Refs f) Load kinds.Look None y → is_allocated_to d (share_of y) ≡ false → Between o w (unallocated d f p)
  left_there w y look off =
      let there : told_word u (Refs f) ≡ y = told_there u w _ _ _ _ _ look (telling stays o u p b) in
      subst (Between o w) (sym (unallocated_none d f p (ap (is_allocated_to d) (b.frames.shares f inside ∙ ap share_of there) ∙ off))) (between_looks stays o u p b w _ _ _ _ look)

  -- it is taken off, and its reference is given back
  module _ (a c w : PortValue) (y count : ℕ) (look : Moves u a (Refs f) Load kinds.Look None y) (reads : ref_read y ≡ Some (Owned d true count))
      (takes : Moves a c (Refs f) (Cas y (ref_write (Owned d false count))) kinds.Ref None y) (puts : Puts c w f) where
    abbrev s : Share
    s = record { owner = d; allocated = false; count = count }

    between_a : Between o a p
    between_a = between_looks stays o u p b a _ _ _ _ look

    there : told_word a (Refs f) ≡ y
    there = told_there a c _ _ _ _ _ takes (telling stays o a p between_a)

    share_is : p.shares f ≡ Some (record { owner = d; allocated = true; count = count })
    share_is = between_a.frames.shares f inside ∙ ap share_of there ∙ ap share_in reads

    rewritten : Some s ≡ share_of (ref_write (Owned d false count))
    unfolding IsRef
    rewritten =
        let whole = (ref_write-read y (Owned d true count) (read_small y (Owned d true count) reads) reads).0 in
        sym (ap share_in (ref_read-write (Owned d false count) (whole.0, whole.1, whole.2)))

    abbrev words : Words
    words = change (Store (ref_write (Owned d false count))) (Refs f) (told_word a)

    marked : Describes o.machine words (with_share f s p)
    unfolding left_by
    marked = shared o.machine (told_word a) words p f (ref_write (Owned d false count)) (Some s) between_a.frames rewritten (λ h. refl) (λ h. refl) (λ h i. refl)

    between_c : Between o c (with_share f s p)
    between_c =
        between_by stays o a p between_a c words (with_share f s p) (moves_came a c _ _ _ _ _ takes) (exchanged a c (Refs f) y (ref_write (Owned d false count)) takes (telling stays o a p between_a)) (λ t k. refl) marked
        (λ g low. b.unkept g low)

    back : Between o w (reference_back f (with_share f s p))
    back =
        between_by stays o c (with_share f s p) between_c w (put f (told_word c)) (reference_back f (with_share f s p)) (does_came c w _ puts) (puts_words c w f (telling stays o c (with_share f s p) between_c) puts)
        (λ t k. put_word f t k (told_word c)) (same_back o.machine (told_word c) (with_share f s p) f s between_c.frames inside (at_here f (Some s) p.shares))
        (λ g low. b.unkept g low)

    given : Between o w (unallocated d f p)
    given =
        subst (λ (t : Option Share). Between o w (if is_allocated_to d t then unmarked f t p else p)) (sym share_is)
        (subst (λ t. Between o w (if t && true then reference_back f (with_share f s p) else p)) (sym (equal_refl d)) back)

  abbrev GivesTo : PortValue → Result Bool Stop → Type 0
  GivesTo w (Ok passed) = Between o w (unallocated d f p)
  GivesTo w (Err e) = ⊥

  pub gives_mark : (w : PortValue) (answer : Result Bool Stop) → GivesMark d f u w answer → GivesTo w answer
  gives_mark _ _ (clearing.GivesMark.none w y look off) = left_there w y look (not_allocated d y off)
  gives_mark _ _ (clearing.GivesMark.others w y look on other) = left_there w y look (unowned_unallocated d (share_of y) (not_owned d y other))
  gives_mark _ _ (clearing.GivesMark.given a c w y count look reads takes puts) = given a c w y count look reads takes puts
  gives_mark _ _ (clearing.GivesMark.lost a w y count found look reads apart takes) =
      let t = telling stays o u p b in
      absurd (apart (sym (told_there a w _ _ _ _ _ takes (moves_telling u a _ _ _ _ _ look ∙ t)) ∙ load_tells u a _ _ _ _ look t (Refs f) ∙ told_there u a _ _ _ _ _ look t))
