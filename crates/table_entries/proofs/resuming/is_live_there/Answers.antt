use Rattle.std.proofs.Common.{◌<◌, ◌≤◌, refl, ap, sym, subst, ◌∙◌}
use Rattle.xp_words.specs.Machine.{Machine}
use Rattle.table_entries.specs.Between.{outside}
use Rattle.table_entries.proofs.HandAgain.{live_as, never_unread}
use Rattle.table_entries.proofs.resuming.is_live_there.Goals as goal

pub returns-in-Some : goal.returns-in-Some
returns-in-Some g c =
    let v = g.P.Port.value c.args.port.now in
    let w = g.P.Port.value c.look_kind-word.new.port in
    let frames = c.from.ensures ∙ ap (λ (n : Machine). n.frames) (c.behind-port.view_is ∙ c.layout.ensures.layout) in
    live_as v w c.args.frame c.look_kind-word.result c.in-Some.kind.validated c.in-Some.kind c.look_kind-word.ensures.moves c.look_kind-word.ensures.hand
    (subst (λ n. c.args.frame < n) frames c.if-frame-from.true) (sym c.read.ensures ∙ c.in-Some.is) refl

pub returns-in-None : goal.returns-in-None
returns-in-None g c =
    let v = g.P.Port.value c.args.port.now in
    let w = g.P.Port.value c.look_kind-word.new.port in
    let frames = c.from.ensures ∙ ap (λ (n : Machine). n.frames) (c.behind-port.view_is ∙ c.layout.ensures.layout) in
    absurd (never_unread v w c.args.frame c.look_kind-word.result c.look_kind-word.ensures.moves (subst (λ n. c.args.frame < n) frames c.if-frame-from.true) (sym c.read.ensures ∙ c.in-None.is))

pub returns-else-frame-from : goal.returns-else-frame-from
returns-else-frame-from g c =
    let v = g.P.Port.value c.args.port.now in
    let frames = c.from.ensures ∙ ap (λ (n : Machine). n.frames) (c.behind-port.view_is ∙ c.layout.ensures.layout) in
    outside (subst (λ n. n ≤ c.args.frame) frames c.if-frame-from.false) refl
