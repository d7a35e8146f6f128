-- Steps that any destruction may make behind others: what they serve, and why they stop.
use Rattle.std.specs.Prelude.{◌≡◌, ℕ, Bool, true, Result}
use Rattle.xp_words.specs.declared.reply.Stop.{Stop}
use Rattle.xp_board.specs.Told.{PortValue}
use Rattle.step_maker.specs.Answers.{Serves, Stops, misses}
use Rattle.level_release.specs.Asking.{is_due_answer, is_due_stop}
use Rattle.domain_destroy.specs.Asking.{of_domain}

-- they serve any destruction, and a guest sees no deed of them
abbrev pub GoesOnDestroying : {A : Type 0} → PortValue → PortValue → Result A Stop → Type 0
GoesOnDestroying v w answer = (d : ℕ) (rose : Bool) → (is_due_answer answer ≡ true → rose ≡ true) → Serves v w (of_domain v.post.machine d rose) (misses v.post.machine answer)

abbrev pub StopsOnDestroying : PortValue → PortValue → Stop → Type 0
StopsOnDestroying v w e = (d : ℕ) (rose : Bool) → (is_due_stop e ≡ true → rose ≡ true) → Stops v w (of_domain v.post.machine d rose) e
