-- The steps by which a reference is taken, by the word that the look found.
use Rattle.std.proofs.Common.{◌≡◌, ◌≢◌, ℕ, ◌<◌, ◌≤◌, if◌then◌else◌, Some, None, List, Result, Ok, Err, refl, sym, ap, ◌∙◌, subst}
use Rattle.xp_words.specs.declared.place.Place.TheVariants.{Refs}
use Rattle.xp_words.specs.Places.{number, sizes_of}
use Rattle.xp_words.specs.RefWords.{ref_read}
use Rattle.xp_words.specs.declared.refs.RefWord.TheVariants.{Owned}
use Rattle.xp_words.specs.declared.reply.Pause.TheVariants.{Lost}
use Rattle.xp_words.specs.declared.reply.Refusal.{Refusal}
use Rattle.xp_words.specs.declared.reply.Refusal.TheVariants.{NoFrame}
use Rattle.xp_words.specs.declared.reply.Stop.{Stop}
use Rattle.xp_words.specs.declared.reply.Stop.TheVariants.{Refused, Paused}
use Rattle.xp_words.proofs.Shared.{lt_true as inside}
use Rattle.xp_board.specs.declared.step.Act.TheVariants.{Load, Cas}
use Rattle.xp_board.specs.declared.step.StepKind.TheVariants as kinds
use Rattle.xp_board.specs.Told.{PortValue}
use Rattle.step_maker.specs.Moves.{Moves}
use Rattle.step_maker.specs.Visits.{Visit, visit, Does, Only}
use Rattle.step_maker.proofs.Visiting.{does_as, does_nothing, does_one, does_then}
use Rattle.frame_words.specs.declared.rows.Open.{Open}
use Rattle.frame_words.specs.Plain.{one_more, refer, refer_by}
use Rattle.frame_words.specs.Refs.{open_word, raised_word, RefusesWord, Gets, GetsBy, Raises, raises_refs, saw_refs, TakesFirst, UnreferredBy, outside as unreal, refused, stopped, had}
use Rattle.frame_words.proofs.Twinning.{refused_by, refer_none}

pub gets_no_frame : (v : PortValue) (f owner : ℕ) → v.post.machine.frames ≤ f → Gets {A = ℕ} v v f owner (Err (Refused (NoFrame f)))
gets_no_frame v f owner past = does_as v v _ (λ vs. UnreferredBy v.post.machine f owner (NoFrame f) vs) (λ vs none. unreal past refl none) (does_nothing v)

module _ (v u : PortValue) (f owner word : ℕ) (look : Moves v u (Refs f) Load kinds.Look None word) (real : f < v.post.machine.frames) where
  looked_alone : Does v u (Only (saw_refs f word))
  looked_alone = does_one v u _ _ _ _ word look

  refer_is : refer v.post.machine owner f word ≡ refer_by v.post.machine.limit owner f word (ref_read word)
  refer_is = ap (λ b. if b then refer_by v.post.machine.limit owner f word (ref_read word) else Some (NoFrame f)) (inside f v.post.machine.frames real)

  pub gets_refused : (x : Refusal) → RefusesWord f owner v.post.machine.limit word x → Gets {A = ℕ} v u f owner (Err (Refused x))
  gets_refused x why =
      does_as v u _ (λ vs. UnreferredBy v.post.machine f owner x vs) (λ vs one. refused word real (refer_is ∙ refused_by v.post.machine.limit owner f word x why) one) looked_alone

  module _ (w : PortValue) (o : Open) (read : ref_read word ≡ Some (Owned o.owner o.allocated o.count)) (is : open_word o ≡ word) (found : ℕ)
      (raise : Moves u w (Refs f) (Cas (open_word o) (raised_word o)) kinds.Ref None found) where
    tried : Does v w (λ vs. Raises f word found vs)
    tried =
        does_then v u w (Only (saw_refs f word)) (Only (raises_refs f word found)) looked_alone
        (subst (λ e. Does u w (Only (visit (Refs f) (Cas e (one_more word (ref_read word))) found))) is
        (subst (λ y. Does u w (Only (visit (Refs f) (Cas (open_word o) y) found))) (sym (ap (λ r. one_more word r) read)) (does_one u w _ _ _ _ found raise)))

    free : o.owner ≡ owner → o.count < v.post.machine.limit → refer v.post.machine owner f word ≡ None
    free whose low = refer_is ∙ refer_none v u f owner word look real w o read is whose low

    pub gets_lost : (place : ℕ) → place ≡ number (sizes_of v.post.machine) (Refs f) → o.owner ≡ owner → o.count < v.post.machine.limit → found ≢ open_word o → Gets {A = ℕ} v w f owner (Err (Paused (Lost place word found)))
    gets_lost place at whose low off =
        does_as v w _ (λ vs. GetsBy {A = ℕ} v.post.machine f owner (Err (Paused (Lost place word found))) vs) (λ vs steps. (at, free whose low, (λ same. off (same ∙ sym is)), steps)) tried

    pub gets_one : (g : ℕ) → found ≡ open_word o → o.owner ≡ owner → o.count < v.post.machine.limit → Gets {A = ℕ} v w f owner (Ok g)
    gets_one g same whose low =
        does_as v w _ (λ vs. GetsBy {A = ℕ} v.post.machine f owner (Ok g) vs) (λ vs steps. (word, free whose low, subst (λ y. Raises f word y vs) (same ∙ is) steps)) tried

-- ---- a call that takes a reference first
module _ (A : Type 0) (v u : PortValue) (f owner : ℕ) (P : List Visit → Type 0) where
  pub first_stopped : (e : Stop) → Gets {A = ℕ} v u f owner (Err e) → Does v u (λ vs. TakesFirst {A = A} v.post.machine f owner P (Err e) vs)
  first_stopped e got = does_as v u _ (λ vs. TakesFirst {A = A} v.post.machine f owner P (Err e) vs) (λ vs gets. stopped e refl gets) got

  pub first_had : (w : PortValue) (g : ℕ) (answer : Result A Stop) → Gets {A = ℕ} v u f owner (Ok g) → Does u w P → Does v w (λ vs. TakesFirst v.post.machine f owner P answer vs)
  first_had w g answer got rest =
      does_as v w _ (λ vs. TakesFirst v.post.machine f owner P answer vs) (λ vs steps. had steps) (does_then v u w (λ gs. GetsBy {A = ℕ} v.post.machine f owner (Ok f) gs) P got rest)
