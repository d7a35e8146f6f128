-- Ordinary memory that waits for a flush is left: by its steps, and in plain words.
use Rattle.std.proofs.Common.{◌≡◌, ℕ, Bool, true, false, sym, subst}
use Rattle.xp_words.specs.declared.kind.PageType.TheVariants.{Writable}
use Rattle.xp_words.specs.declared.place.Place.TheVariants.{Refs}
use Rattle.xp_words.specs.declared.reply.Pause.{Pause}
use Rattle.xp_words.specs.declared.reply.Refusal.{Refusal}
use Rattle.xp_words.specs.declared.reply.Stop.{Stop}
use Rattle.xp_words.specs.declared.reply.Stop.TheVariants.{Refused, Paused}
use Rattle.xp_board.specs.Readings.{domain_of, is_free}
use Rattle.xp_board.specs.Told.{PortValue, is_telling, told_word}
use Rattle.step_maker.specs.Plain.{Leaves}
use Rattle.step_maker.specs.Visits.{Does}
use Rattle.frame_words.specs.Plain.{put, stamp_now}
use Rattle.kind_words.specs.Kinds.{dead_kind, partial_kind}
use Rattle.frame_types.specs.Found.{DeadBy, SharedBy}
use Rattle.frame_types.specs.Plain.{left_waiting, set_kind}
use Rattle.frame_types.proofs.Waiting.{kept_words}
use Rattle.kept_marks.specs.Marks as marks
use Rattle.kept_marks.specs.Marks.{KeptFor}
use Rattle.writable_pages.specs.Pages.{LeftPage}

abbrev Owned : PortValue → ℕ → Type 0
Owned v f = is_telling v ≡ true → is_free (told_word v (Refs f)) ≡ false

module _ (v w : PortValue) (f owner stamp : ℕ) (own : Bool) (stop : Stop) where
  -- the type count is another holder's
  pub shared_left : own ≡ false → Does v w (λ vs. SharedBy f Writable stamp vs) → (is_telling v ≡ true → Leaves w (put f (set_kind f (partial_kind Writable false true 0 stamp) (told_word v)))) → Owned v f → LeftPage v w f owner stamp own stop
  shared_left is steps words owned = subst (λ b. LeftPage v w f owner stamp b stop) (sym is) (record { steps = steps; plain = λ mine. words; owned = λ gives. owned })

  -- refused
  pub dead_left : (r : Refusal) → own ≡ true → stop ≡ Refused r → Does v w (λ vs. DeadBy f Writable vs) → (is_telling v ≡ true → Leaves w (put f (set_kind f (dead_kind Writable true (stamp_now (told_word v))) (told_word v)))) → Owned v f →
      LeftPage v w f owner stamp own stop
  dead_left r is refused steps words owned =
      subst (λ e. LeftPage v w f owner stamp own e) (sym refused) (subst (λ b. LeftPage v w f owner stamp b (Refused r)) (sym is) (record { steps = steps; plain = λ mine. words; owned = λ gives. owned }))

  -- paused: it stays in the mark
  kept_plain : owner ≡ domain_of v.post.machine v.post.vcpu → KeptFor v w f (partial_kind Writable true true 0 stamp) owner → is_telling v ≡ true → Leaves w (left_waiting f true false stamp (told_word v))
  kept_plain mine (marks.own home left) = kept_words v w f left.0 stamp left.1
  kept_plain mine (marks.alive u off left look) = absurd (off mine)
  kept_plain mine (marks.dying u x y life off left look dies back named) = absurd (off mine)
  kept_plain mine (marks.taken u x life found off left look dies back other) = absurd (off mine)

  pub kept_left : (x : Pause) → own ≡ true → stop ≡ Paused x → KeptFor v w f (partial_kind Writable true true 0 stamp) owner → LeftPage v w f owner stamp own stop
  kept_left x is paused kept =
      subst (λ e. LeftPage v w f owner stamp own e) (sym paused) (subst (λ b. LeftPage v w f owner stamp b (Paused x)) (sym is) (record { steps = kept; plain = λ mine. kept_plain mine kept; owned = λ none. absurd (let is = none in cc) }))
