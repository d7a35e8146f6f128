use Rattle.std.proofs.Common.{◌<◌, ◌≤◌, ℕ, None, Err, refl, sym, ap, ◌∙◌, subst, arith}
use Rattle.xp_words.specs.Machine.{Machine}
use Rattle.xp_words.specs.declared.place.Place.TheVariants.{Refs}
use Rattle.xp_words.specs.Places.{number, sizes_of}
use Rattle.xp_words.specs.declared.reply.Stop.{Stop}
use Rattle.step_maker.specs.Answers.{Serves, Stops, misses}
use Rattle.step_maker.specs.Asked.{of_frame}
use Rattle.step_maker.proofs.Piecing.{serves_nothing}
use Rattle.frame_words.specs.Plain.{TwinGet}
use Rattle.frame_words.specs.Refs.{Gets, RefusesWord}
use Rattle.frame_words.proofs.Taking.{no_frame, refused, looked, opened, taken, missed_there, lost, taken_gives, word_law}
use Rattle.frame_words.proofs.Getting.{gets_no_frame, gets_refused, gets_one, gets_lost}
use Rattle.frame_words.proofs.Twinning.{twin_refused, twin_got, twin_lost}
use Rattle.frame_words.proofs.references.get_ref.Goals as goal

pub returns-then-f-frames-clause-serves : goal.returns-then-f-frames-clause-serves
returns-then-f-frames-clause-serves g c = serves_nothing _ _

pub returns-then-f-frames-clause-stops : goal.returns-then-f-frames-clause-stops
returns-then-f-frames-clause-stops g c =
    let frames = ap (λ (n : Machine). n.frames) (c.behind-port.view_is ∙ c.layout.ensures.layout) in
    no_frame _ c.args.f c.args.owner (subst (λ k. k ≤ c.args.f) (c.from-frames.ensures ∙ frames) c.if-f-frames.true)

pub raise_refs-requires-clause-open : goal.raise_refs-requires-clause-open
raise_refs-requires-clause-open g c =
    let limit = ap (λ (n : Machine). n.limit) (c.behind-port-2.view_is ∙ c.layout-2.ensures.layout) in
    let frames = ap (λ (n : Machine). n.frames) (c.behind-port.view_is ∙ c.layout.ensures.layout) in
    opened _ _ c.args.f c.args.owner c.look_refs-found.result c.look_refs-found.ensures.moves c.in-Ok.open
    (subst (λ k. c.args.f < k) (c.from-frames.ensures ∙ frames) c.if-f-frames.false) c.look_refs-found.ensures.hand c.look_refs-found.type_inv c.in-Ok.ensures.reads
    (subst (λ k. c.in-Ok.open.count < k) limit c.in-Ok.ensures.low)

pub raise_refs-requires-clause-spelled : goal.raise_refs-requires-clause-spelled
raise_refs-requires-clause-spelled g c = sym (word_law _ _ c.args.f c.args.owner c.look_refs-found.result c.look_refs-found.ensures.moves c.in-Ok.open c.look_refs-found.type_inv c.in-Ok.ensures.reads).1

pub returns-in-Err-clause-serves : goal.returns-in-Err-clause-serves
returns-in-Err-clause-serves g c = looked _ _ c.args.f c.args.owner c.look_refs-found.result c.look_refs-found.ensures.moves

pub returns-in-Err-clause-stops : goal.returns-in-Err-clause-stops
returns-in-Err-clause-stops g c =
    let limit = ap (λ (n : Machine). n.limit) (c.behind-port-2.view_is ∙ c.layout-2.ensures.layout) in
    refused _ _ c.args.f c.args.owner c.look_refs-found.result c.look_refs-found.ensures.moves c.in-Err.refusal
    (subst (λ k. RefusesWord c.args.f c.args.owner k c.look_refs-found.result c.in-Err.refusal) limit c.in-Err.ensures.cause)

pub returns-in-Ok-raise_refs-clause-serves : goal.returns-in-Ok-raise_refs-clause-serves
returns-in-Ok-raise_refs-clause-serves g c =
    let limit = ap (λ (n : Machine). n.limit) (c.behind-port-2.view_is ∙ c.layout-2.ensures.layout) in
    let low = subst (λ k. c.in-Ok.open.count < k) limit c.in-Ok.ensures.low in
    let few = c.requires.machine.few_counts in
    taken _ _ c.args.f c.args.owner c.look_refs-found.result c.look_refs-found.ensures.moves _ c.in-Ok.open c.look_refs-found.type_inv c.in-Ok.ensures.reads (omega arith) _ c.in-Ok-raise_refs.ensures.moves refl

pub returns-in-Ok-raise_refs-clause-gives : goal.returns-in-Ok-raise_refs-clause-gives
returns-in-Ok-raise_refs-clause-gives g c =
    taken_gives _ _ (g.P.Port.value c.raise_refs.new.port) c.args.f c.look_refs-found.result c.in-Ok.open.owner c.look_refs-found.ensures.moves c.look_refs-found.ensures.hand c.in-Ok-raise_refs.ensures.hand

pub returns-in-Err-raise_refs-clause-serves : goal.returns-in-Err-raise_refs-clause-serves
returns-in-Err-raise_refs-clause-serves g c =
    let at = c.place-place.ensures ∙ ap (λ (n : Machine). number (sizes_of n) (Refs c.args.f)) c.layout-3.ensures.layout in
    let limit = ap (λ (n : Machine). n.limit) (c.behind-port-2.view_is ∙ c.layout-2.ensures.layout) in
    let low = subst (λ k. c.in-Ok.open.count < k) limit c.in-Ok.ensures.low in
    let few = c.requires.machine.few_counts in
    subst (λ (s : Stop). Serves (g.P.Port.value c.args.port.now) (g.P.Port.value c.raise_refs.new.port) (of_frame c.args.f c.args.owner None) (misses {A = ℕ} (g.P.Port.value c.args.port.now).post.machine (Err s))) (sym c.lost.ensures)
    (missed_there _ _ c.args.f c.args.owner c.look_refs-found.result c.look_refs-found.ensures.moves _ c.in-Ok.open c.look_refs-found.type_inv c.in-Ok.ensures.reads (omega arith) _ c.in-Err-raise_refs.ensures.moves
    _ at c.in-Err-raise_refs.ensures.lost)

pub returns-in-Err-raise_refs-clause-stops : goal.returns-in-Err-raise_refs-clause-stops
returns-in-Err-raise_refs-clause-stops g c =
    let at = c.place-place.ensures ∙ ap (λ (n : Machine). number (sizes_of n) (Refs c.args.f)) c.layout-3.ensures.layout in
    let limit = ap (λ (n : Machine). n.limit) (c.behind-port-2.view_is ∙ c.layout-2.ensures.layout) in
    let low = subst (λ k. c.in-Ok.open.count < k) limit c.in-Ok.ensures.low in
    let few = c.requires.machine.few_counts in
    subst (λ (s : Stop). Stops (g.P.Port.value c.args.port.now) (g.P.Port.value c.raise_refs.new.port) (of_frame c.args.f c.args.owner None) s) (sym c.lost.ensures)
    (lost _ _ c.args.f c.args.owner c.look_refs-found.result c.look_refs-found.ensures.moves _ c.in-Ok.open c.look_refs-found.type_inv c.in-Ok.ensures.reads (omega arith) _ c.in-Err-raise_refs.ensures.moves
    _ at c.in-Err-raise_refs.ensures.lost)

pub returns-in-Err-clause-plain : goal.returns-in-Err-clause-plain
returns-in-Err-clause-plain g c =
    let limit = ap (λ (n : Machine). n.limit) (c.behind-port-2.view_is ∙ c.layout-2.ensures.layout) in
    let frames = ap (λ (n : Machine). n.frames) (c.behind-port.view_is ∙ c.layout.ensures.layout) in
    twin_refused _ _ c.args.f c.args.owner c.look_refs-found.result c.look_refs-found.ensures.moves (subst (λ k. c.args.f < k) (c.from-frames.ensures ∙ frames) c.if-f-frames.false) c.in-Err.refusal
    (subst (λ k. RefusesWord c.args.f c.args.owner k c.look_refs-found.result c.in-Err.refusal) limit c.in-Err.ensures.cause)

pub returns-in-Ok-raise_refs-clause-plain : goal.returns-in-Ok-raise_refs-clause-plain
returns-in-Ok-raise_refs-clause-plain g c =
    let limit = ap (λ (n : Machine). n.limit) (c.behind-port-2.view_is ∙ c.layout-2.ensures.layout) in
    let frames = ap (λ (n : Machine). n.frames) (c.behind-port.view_is ∙ c.layout.ensures.layout) in
    twin_got _ _ c.args.f c.args.owner c.look_refs-found.result c.look_refs-found.ensures.moves (subst (λ k. c.args.f < k) (c.from-frames.ensures ∙ frames) c.if-f-frames.false) _ c.in-Ok.open c.in-Ok.ensures.reads
    (word_law _ _ c.args.f c.args.owner c.look_refs-found.result c.look_refs-found.ensures.moves c.in-Ok.open c.look_refs-found.type_inv c.in-Ok.ensures.reads).1 c.in-Ok.ensures.owner (subst (λ k. c.in-Ok.open.count < k) limit c.in-Ok.ensures.low)
    c.in-Ok-raise_refs.ensures.moves

pub returns-in-Err-raise_refs-clause-plain : goal.returns-in-Err-raise_refs-clause-plain
returns-in-Err-raise_refs-clause-plain g c =
    let frames = ap (λ (n : Machine). n.frames) (c.behind-port.view_is ∙ c.layout.ensures.layout) in
    subst (λ (s : Stop). TwinGet {A = ℕ} (g.P.Port.value c.args.port.now) (g.P.Port.value c.raise_refs.new.port) c.args.f c.args.owner (Err s)) (sym c.lost.ensures)
    (twin_lost _ _ c.args.f c.args.owner c.look_refs-found.result c.look_refs-found.ensures.moves (subst (λ k. c.args.f < k) (c.from-frames.ensures ∙ frames) c.if-f-frames.false) _ c.in-Ok.open c.in-Ok.ensures.reads
    (word_law _ _ c.args.f c.args.owner c.look_refs-found.result c.look_refs-found.ensures.moves c.in-Ok.open c.look_refs-found.type_inv c.in-Ok.ensures.reads).1 _ c.in-Err-raise_refs.ensures.moves c.in-Err-raise_refs.ensures.lost)

pub returns-then-f-frames-clause-gets : goal.returns-then-f-frames-clause-gets
returns-then-f-frames-clause-gets g c =
    let frames = ap (λ (n : Machine). n.frames) (c.behind-port.view_is ∙ c.layout.ensures.layout) in
    gets_no_frame _ c.args.f c.args.owner (subst (λ k. k ≤ c.args.f) (c.from-frames.ensures ∙ frames) c.if-f-frames.true)

pub returns-in-Err-clause-gets : goal.returns-in-Err-clause-gets
returns-in-Err-clause-gets g c =
    let limit = ap (λ (n : Machine). n.limit) (c.behind-port-2.view_is ∙ c.layout-2.ensures.layout) in
    let frames = ap (λ (n : Machine). n.frames) (c.behind-port.view_is ∙ c.layout.ensures.layout) in
    gets_refused _ _ c.args.f c.args.owner c.look_refs-found.result c.look_refs-found.ensures.moves (subst (λ k. c.args.f < k) (c.from-frames.ensures ∙ frames) c.if-f-frames.false) c.in-Err.refusal
    (subst (λ k. RefusesWord c.args.f c.args.owner k c.look_refs-found.result c.in-Err.refusal) limit c.in-Err.ensures.cause)

pub returns-in-Ok-raise_refs-clause-gets : goal.returns-in-Ok-raise_refs-clause-gets
returns-in-Ok-raise_refs-clause-gets g c =
    let limit = ap (λ (n : Machine). n.limit) (c.behind-port-2.view_is ∙ c.layout-2.ensures.layout) in
    let frames = ap (λ (n : Machine). n.frames) (c.behind-port.view_is ∙ c.layout.ensures.layout) in
    gets_one _ _ c.args.f c.args.owner c.look_refs-found.result c.look_refs-found.ensures.moves (subst (λ k. c.args.f < k) (c.from-frames.ensures ∙ frames) c.if-f-frames.false) _ c.in-Ok.open c.in-Ok.ensures.reads
    (word_law _ _ c.args.f c.args.owner c.look_refs-found.result c.look_refs-found.ensures.moves c.in-Ok.open c.look_refs-found.type_inv c.in-Ok.ensures.reads).1 _ c.in-Ok-raise_refs.ensures.moves c.args.f refl c.in-Ok.ensures.owner
    (subst (λ k. c.in-Ok.open.count < k) limit c.in-Ok.ensures.low)

pub returns-in-Err-raise_refs-clause-gets : goal.returns-in-Err-raise_refs-clause-gets
returns-in-Err-raise_refs-clause-gets g c =
    let at = c.place-place.ensures ∙ ap (λ (n : Machine). number (sizes_of n) (Refs c.args.f)) c.layout-3.ensures.layout in
    let limit = ap (λ (n : Machine). n.limit) (c.behind-port-2.view_is ∙ c.layout-2.ensures.layout) in
    let frames = ap (λ (n : Machine). n.frames) (c.behind-port.view_is ∙ c.layout.ensures.layout) in
    subst (λ (s : Stop). Gets {A = ℕ} (g.P.Port.value c.args.port.now) (g.P.Port.value c.raise_refs.new.port) c.args.f c.args.owner (Err s)) (sym c.lost.ensures)
    (gets_lost _ _ c.args.f c.args.owner c.look_refs-found.result c.look_refs-found.ensures.moves (subst (λ k. c.args.f < k) (c.from-frames.ensures ∙ frames) c.if-f-frames.false) _ c.in-Ok.open c.in-Ok.ensures.reads
    (word_law _ _ c.args.f c.args.owner c.look_refs-found.result c.look_refs-found.ensures.moves c.in-Ok.open c.look_refs-found.type_inv c.in-Ok.ensures.reads).1 _ c.in-Err-raise_refs.ensures.moves _ at c.in-Ok.ensures.owner
    (subst (λ k. c.in-Ok.open.count < k) limit c.in-Ok.ensures.low) c.in-Err-raise_refs.ensures.lost)
