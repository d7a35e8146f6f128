-- The image that a run leaves, and what an audit says of it.
use Rattle.std.proofs.Common.{codes, ◌≡◌, ◌∙◌, ℕ, ◌<◌, ◌^◌, Bool, true, false, IsTrue, List, All, cond, get_or, inl, inr, refl, sym, ap, subst}
use Rattle.std.proofs.lemmas.List.Elements.{All-from_get_or}
use Rattle.xp_words.specs.Machine.{Machine}
use Rattle.xp_words.specs.Places.{Sizes, is_place, memory, number, place_at, sizes_of}
use Rattle.xp_words.specs.declared.place.Place.{Place}
use Rattle.xp_words.proofs.PlaceLaws.{place_there}
use Rattle.xp_board.specs.Sound.{SoundWords}
use Rattle.machine_image.specs.Image.{IsImaged}
use Rattle.machine_image.specs.Reading.{fault_there, image_fault}
use Rattle.machine_image.proofs.Whole.{one_spelling, reads_back}
use Rattle.trace_text.specs.declared.trace.Trace.{Trace}
use Rattle.xp_preempt.specs.Gates.{Gate}
use Rattle.walk_audit.specs.Breaks.{Breaks}
use Rattle.walk_audit.specs.Judged.{Judged}
use Rattle.walk_audit.specs.declared.verdict.Verdict.{Verdict}
use Rattle.walk_audit.specs.declared.verdict.Verdict.TheVariants as verdicts
use Rattle.xp_machine.specs.declared.audits.Showing.{Showing}
use Rattle.xp_machine.specs.declared.audits.Showing.TheVariants.{Line}
use Rattle.xp_machine.specs.declared.status.Status.{Status}
use Rattle.xp_machine.specs.declared.status.Status.TheVariants as status
use Rattle.xp_machine.specs.Audited.{IsJudgement, Shows, TellsOf}
use Rattle.xp_machine.specs.Ran.{ImagedTrace}

-- a word that the machine has is the one at its place
there : (z : Sizes) (words : List ℕ) (p : Place) → IsTrue (is_place z p) → memory z words p ≡ get_or words (number z p) 0
unfolding memory
there z words p h = by (is_place z p) h
  where
    by : (b : Bool) → IsTrue b → cond b (get_or words (number z p) 0) 0 ≡ get_or words (number z p) 0
    by true h = refl
    by false h = cc

-- sound words have 64 bits
narrow : (m : Machine) (words : List ℕ) → SoundWords m words → All (λ w. w < 2 ^ 64) words
narrow m words s = All-from_get_or (λ w. w < 2 ^ 64) words 0 (λ i under.
    let z = sizes_of m in
    let at = place_there z i (subst (λ k. i < k) s.all_words under) in
    let is = there z words (place_at z i) at.0 ∙ ap (λ k. get_or words k 0) at.1 in
    subst (λ w. w < 2 ^ 64) is (s.sound.spelled.small (place_at z i)))

-- what is shown of it is shown of the words of the run
pub told_of : (showing : Showing) (t : Trace) (gates : List Gate) (bytes : List ℕ) → ImagedTrace t gates bytes → (answer : Status) (text : List ℕ) → IsJudgement showing bytes answer text
    → (words : List ℕ) × SoundWords t.layout words × TellsOf showing t.layout words answer text
unfolding image_fault
told_of showing t gates bytes h answer text judgement = by judgement
  where
    imaged : IsImaged t.layout h.closed.board.words
    imaged = record { machine = h.ran.sound.sound.machine; whole = h.ran.sound.all_words; narrow = narrow t.layout h.closed.board.words h.ran.sound }

    by : IsJudgement showing bytes answer text → (words : List ℕ) × SoundWords t.layout words × TellsOf showing t.layout words answer text
    by (inl j) =
        let same = one_spelling t.layout j.machine h.closed.board.words j.words imaged j.imaged (sym h.image ∙ j.bytes_are) in
        (h.closed.board.words, h.ran.sound, subst (λ m. TellsOf showing m h.closed.board.words answer text) (sym same.0) (subst (λ words. TellsOf showing j.machine words answer text) (sym same.1) j.told))
    by (inr j) = absurd (let bad = sym j.first ∙ ap fault_there (reads_back bytes t.layout h.closed.board.words imaged h.image) in cc)

-- of sound words it is told that they are
pub sound_told : (n : Machine) (words : List ℕ) (answer : Status) (text : List ℕ) → ((m : Machine) (ws : List ℕ) (v : Verdict) → SoundWords m ws → Breaks m (memory (sizes_of m) ws) v → ⊥) → SoundWords n words → TellsOf Line n words answer text
    → (answer ≡ status.Done) × (text ≡ codes "sound\n")
unfolding Judged
sound_told n words answer text never sound told = by told.verdict told.judged told.shown
  where
    none : {A : Type 0} (v : Verdict) → Breaks n (memory (sizes_of n) words) v → A
    none v breaks = absurd (never n words v sound breaks)

    by : (v : Verdict) → Judged n words v → Shows Line n words v answer text → (answer ≡ status.Done) × (text ≡ codes "sound\n")
    by verdicts.Sound j s = s
    by (verdicts.Word k w) j s = none (verdicts.Word k w) j.breaks
    by (verdicts.Held f) j s = none (verdicts.Held f) j.breaks
    by (verdicts.Refs f a b) j s = none (verdicts.Refs f a b) j.breaks
    by (verdicts.Count f a b) j s = none (verdicts.Count f a b) j.breaks
    by (verdicts.OtherKind f) j s = none (verdicts.OtherKind f) j.breaks
    by (verdicts.Pages d a b) j s = none (verdicts.Pages d a b) j.breaks
    by (verdicts.BadEntry f i) j s = none (verdicts.BadEntry f i) j.breaks
    by (verdicts.Context v k) j s = none (verdicts.Context v k) j.breaks
    by (verdicts.Stamp k) j s = none (verdicts.Stamp k) j.breaks
    by (verdicts.Dead d) j s = none (verdicts.Dead d) j.breaks
    by (verdicts.Map k) j s = none (verdicts.Map k) j.breaks
