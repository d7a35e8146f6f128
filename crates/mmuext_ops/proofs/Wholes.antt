-- The LDT set, and pages cleared and copied, as elements.
use Rattle.std.proofs.Common.{◌≡◌, ℕ, false, List, length, Option, Result, Ok, Err, IfErr, refl}
use Rattle.xp_words.specs.declared.reply.Pause.TheVariants as pauses
use Rattle.xp_words.specs.declared.reply.Stop.{Stop}
use Rattle.xp_words.specs.declared.reply.Stop.TheVariants.{Refused, Paused}
use Rattle.xp_board.specs.Told.{PortValue}
use Rattle.level_release.specs.Asking.{is_due_answer}
use Rattle.level_validate.specs.Unwinding.{own_domain}
use Rattle.desc_pages.specs.Ldt.{IsLdtStop, LdtSet}
use Rattle.whole_pages.specs.Whole as whole
use Rattle.whole_pages.specs.Whole.{IsWholeStop, PageCleared, PageCopied}
use Rattle.mmuext_ops.specs.Elements.{ServesElement, StopsElement, copied, told}
use Rattle.mmuext_ops.specs.declared.element.Element.TheVariants.{ClearPage, CopyPage, SetLdt}

-- ---- none asks the gate
pub ldt_undue : (answer : Result (Unit {0}) Stop) → IfErr answer IsLdtStop → is_due_answer answer ≡ false
ldt_undue (Ok done) is = refl
ldt_undue (Err (Refused x)) is = refl
ldt_undue (Err (Paused x)) is = absurd is

pub whole_undue : (answer : Result (Unit {0}) Stop) → IfErr answer IsWholeStop → is_due_answer answer ≡ false
whole_undue (Ok done) is = refl
whole_undue (Err (Refused x)) is = refl
whole_undue (Err (Paused pauses.Due)) is = absurd is
whole_undue (Err (Paused (pauses.Lost place expected found))) is = refl
whole_undue (Err (Paused (pauses.Busy f found))) is = refl
whole_undue (Err (Paused (pauses.Flush vcpu stamp found))) is = refl
whole_undue (Err (Paused (pauses.Alive vcpu found))) is = absurd is

module _ {v w : PortValue} {d : ℕ} (awaited : Option ℕ) where
  module _ {address entries : ℕ} where
    pub ldt_serves : (answer : Result (Unit {0}) Stop) → d ≡ own_domain v → LdtSet v w address entries answer → ServesElement v w d (SetLdt address entries) awaited answer
    ldt_serves (Ok done) own set = (_, told _ _ tt, rw own set.serves)
    ldt_serves (Err e) own set = (_, told _ _ tt, rw own set.serves)

    pub ldt_stops : (answer : Result (Unit {0}) Stop) → d ≡ own_domain v → LdtSet v w address entries answer → StopsElement v w d (SetLdt address entries) awaited answer
    ldt_stops (Ok done) own set = tt
    ldt_stops (Err e) own set = rw own set.stops

  module _ {f : ℕ} where
    pub clear_serves : (answer : Result (Unit {0}) Stop) → PageCleared v w d f answer → ServesElement v w d (ClearPage f) awaited answer
    clear_serves (Ok done) a = (_, told _ _ tt, a.serves)
    clear_serves (Err e) a = (_, told _ _ tt, a.serves)

  module _ {to from : ℕ} where
    whole_words : {words : List ℕ} → whole.CopiesPage v d to from words w (Ok tt) → length words ≡ 512
    whole_words (whole.CopiesPage.copied a b c e x many had got did gave back) = many

    pub copy_serves : (answer : Result (Unit {0}) Stop) → PageCopied v w d to from answer → ServesElement v w d (CopyPage to from) awaited answer
    copy_serves (Ok done) a = (_, copied to from a.words (whole_words a.course), a.serves)
    copy_serves (Err e) a = (_, told _ _ tt, a.serves)
