use Rattle.std.proofs.Common.{ap, ◌∙◌}
use Rattle.xp_board.proofs.KindForms.{fields_of}
use Rattle.kind_words.proofs.KindFacts.{kind_is_some}
use Rattle.table_releases.proofs.FrameSeen.{typed_frame}
use Rattle.table_releases.proofs.HandLive.{sees_kind}
use Rattle.table_releases.proofs.Ways.{releases_busy}
use Rattle.table_releases.proofs.entries.release_typed.Goals as goal

pub look_kind-word-requires : goal.look_kind-word-requires
look_kind-word-requires g c = typed_frame c.requires.seen.3

pub read_kind-kind-requires : goal.read_kind-kind-requires
read_kind-kind-requires g c = kind_is_some _ _ _ _ _ (typed_frame c.requires.seen.3) c.look_kind-word.ensures.moves.finds

pub release_live-requires-clause-seen : goal.release_live-requires-clause-seen
release_live-requires-clause-seen g c =
    let live = ap (λ k. k.validated) (fields_of c.look_kind-word.result c.read_kind-kind.result c.read_kind-kind.ensures) ∙ c.if-kind.true in
    (_, (_, _, _, sees_kind c.requires.seen.3 c.look_kind-word.ensures.moves c.look_kind-word.ensures.hand), live)

pub release_partial-requires-clause-seen : goal.release_partial-requires-clause-seen
release_partial-requires-clause-seen g c = (_, _, _, sees_kind c.requires.seen.3 c.look_kind-word.ensures.moves c.look_kind-word.ensures.hand)

pub returns-then-kind : goal.returns-then-kind
returns-then-kind g c b t word l =
    let live = ap (λ k. k.validated) (fields_of c.look_kind-word.result c.read_kind-kind.result c.read_kind-kind.ensures) ∙ c.if-kind.true in
    c.release_live.ensures _ live b t word (sees_kind l c.look_kind-word.ensures.moves c.look_kind-word.ensures.hand)

pub returns-then-kind-2 : goal.returns-then-kind-2
returns-then-kind-2 g c b t word l = c.release_partial.ensures b t word (sees_kind l c.look_kind-word.ensures.moves c.look_kind-word.ensures.hand)

pub returns-else-kind-2 : goal.returns-else-kind-2
returns-else-kind-2 g c b t word l = releases_busy (sees_kind l c.look_kind-word.ensures.moves c.look_kind-word.ensures.hand) c.read_kind-kind.ensures c.if-kind.false c.if-kind-2.false
