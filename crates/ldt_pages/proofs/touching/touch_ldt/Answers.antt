use Rattle.std.proofs.Common.{false, Err, Ok, ap, sym, ◌∙◌, subst}
use Rattle.std.proofs.lemmas.Result.{err_from_is_err_and}
use Rattle.tlb_walks.specs.Translating.{Walks}
use Rattle.ldt_pages.proofs.Asking.{none_aside}
use Rattle.ldt_pages.proofs.Entered.{touched, untaken, unwalked}
use Rattle.ldt_pages.proofs.Touched.{beyond, held, past, past_none}
use Rattle.ldt_pages.proofs.touching.touch_ldt.Goals as goal

pub returns-then-is_beyond : goal.returns-then-is_beyond
returns-then-is_beyond g c = beyond c.requires.rests c.requires.warm c.look_base-base.ensures.1 (sym c.is_beyond.ensures.beyond ∙ c.if-is_beyond.true)

pub returns-then-look_word-ne0 : goal.returns-then-look_word-ne0
returns-then-look_word-ne0 g c =
    let within = sym c.is_beyond.ensures.beyond ∙ c.if-is_beyond.false in
    held (past c.look_base-base.ensures.1 within c.look_word.ensures.moves c.look_word.ensures.hand) c.requires.rests c.requires.warm c.if-look_word-ne0.true

-- ---- its word names no frame
pub returns-in_err-entry : goal.returns-in_err-entry
returns-in_err-entry g c =
    let p = err_from_is_err_and c.from_residual.result c.from_residual.ensures.1 in
    let within = sym c.is_beyond.ensures.beyond ∙ c.if-is_beyond.false in
    let at = past_none c.look_base-base.ensures.1 within c.if-look_word-ne0.false c.look_word.ensures.moves c.look_word.ensures.hand in
    let t = c.in_err-entry.ensures in
    unwalked at c.requires.rests (p.1 ∙ ap Err p.2) t.came t.kinds
    (subst (λ k. Walks (g.P.Port.value c.look_word.new.port) (g.P.Port.value c.walk.new.port) false k false (Err c.in_err-entry.field-0.0)) c.address_of.ensures t.course) t.rests t.warm

pub get_desc-requires-clause-aside : goal.get_desc-requires-clause-aside
get_desc-requires-clause-aside g c = none_aside (g.P.Port.value c.walk.new.port) c.frame.result c.in_ok-entry.ensures.rests

pub returns-in_err-frame : goal.returns-in_err-frame
returns-in_err-frame g c =
    let p = err_from_is_err_and c.from_residual-in_err-frame.result c.from_residual-in_err-frame.ensures.1 in
    let within = sym c.is_beyond.ensures.beyond ∙ c.if-is_beyond.false in
    let at = past_none c.look_base-base.ensures.1 within c.if-look_word-ne0.false c.look_word.ensures.moves c.look_word.ensures.hand in
    let t = c.in_ok-entry.ensures in
    untaken at c.requires.rests t.came
    (subst (λ k. Walks (g.P.Port.value c.look_word.new.port) (g.P.Port.value c.walk.new.port) false k false (Ok c.in_ok-entry.entry)) c.address_of.ensures t.course) (p.1 ∙ ap Err p.2) c.requires.warm c.frame.ensures
    c.own_domain-owner.ensures.own c.in_err-frame.ensures

pub returns : goal.returns
returns g c =
    let within = sym c.is_beyond.ensures.beyond ∙ c.if-is_beyond.false in
    let at = past_none c.look_base-base.ensures.1 within c.if-look_word-ne0.false c.look_word.ensures.moves c.look_word.ensures.hand in
    let t = c.in_ok-entry.ensures in
    touched at c.requires.rests t.came
    (subst (λ k. Walks (g.P.Port.value c.look_word.new.port) (g.P.Port.value c.walk.new.port) false k false (Ok c.in_ok-entry.entry)) c.address_of.ensures t.course) c.requires.warm c.frame.ensures c.own_domain-owner.ensures.own
    c.in_ok-frame.ensures c.put_page.ensures
