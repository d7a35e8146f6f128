-- What the beginning of a turn leaves of the words.
use Rattle.std.proofs.Common.{◌≡◌, ◌≢◌, ℕ, Bool, true, false, Result, ap, ◌∙◌, nat_lt}
use Rattle.xp_words.specs.Places.{flushed_of}
use Rattle.xp_words.specs.declared.place.Place.{Place}
use Rattle.xp_words.specs.declared.place.Place.TheVariants.{Clock}
use Rattle.xp_words.specs.declared.reply.Refusal.{Refusal}
use Rattle.xp_board.specs.Told.{Post, PortValue, is_telling, told_word}
use Rattle.step_maker.proofs.Coming.{came_post, moves_came}
use Rattle.step_maker.proofs.Telling.{came_telling, load_tells, moves_telling, told_elsewhere}
use Rattle.flush_words.specs.Flushing.{FlushesOwn}
use Rattle.flush_words.specs.Flushing as flushes
use Rattle.tlb_walks.specs.Dropping.{Acks, Heeds}
use Rattle.tlb_walks.proofs.Flushes.{acks_came}
use Rattle.vcpu_turn.specs.Turning.{Begins}

-- ---- a turn that begins changes the clock and the own flushed word, and no more
flush_leaves : (v w : PortValue) (answer : Result (Unit {0}) Refusal) → FlushesOwn v w answer → is_telling v ≡ true → (q : Place) → q ≢ Clock → q ≢ flushed_of v.post.vcpu → told_word w q ≡ told_word v q
flush_leaves v w _ (flushes.spent m) telling q off away = load_tells v w _ _ _ _ m telling q
flush_leaves v w _ (flushes.ticked a b clock before less first second third) telling q off away =
    told_elsewhere b w _ _ _ _ _ third q away ∙ told_elsewhere a b _ _ _ _ _ second q off ∙ load_tells v a _ _ _ _ first telling q
flush_leaves v w _ (flushes.overtaken a b clock found before less other first second third) telling q off away =
    told_elsewhere b w _ _ _ _ _ third q away ∙ told_elsewhere a b _ _ _ _ _ second q off ∙ load_tells v a _ _ _ _ first telling q

heed_leaves : (past : Bool) (v w : PortValue) → Heeds past v w → is_telling v ≡ true → (q : Place) → q ≢ Clock → q ≢ flushed_of v.post.vcpu → told_word w q ≡ told_word v q
heed_leaves true v w same telling q off away = ap (λ (y : PortValue). told_word y q) same
heed_leaves false v w flush telling q off away = flush_leaves v w flush.0 flush.1 telling q off away

ack_leaves : (v w : PortValue) → Acks v w → is_telling v ≡ true → (q : Place) → q ≢ Clock → q ≢ flushed_of v.post.vcpu → told_word w q ≡ told_word v q
ack_leaves v w k telling q off away =
    let first = moves_telling v k.a _ _ _ _ _ k.marked ∙ telling in
    let second = moves_telling k.a k.b _ _ _ _ _ k.looked ∙ first in
    let post : k.b.post ≡ v.post = came_post k.a k.b (moves_came k.a k.b _ _ _ _ _ k.looked) ∙ came_post v k.a (moves_came v k.a _ _ _ _ _ k.marked) in
    heed_leaves (nat_lt k.asked k.flushed) k.b w k.heeds second q off (λ e. away (e ∙ ap (λ (p : Post). flushed_of p.vcpu) post))
    ∙ load_tells k.a k.b _ _ _ _ k.looked first q ∙ load_tells v k.a _ _ _ _ k.marked telling q

pub begins_leaves : (v w : PortValue) (d run life : ℕ) → Begins v w d run life → is_telling v ≡ true → (q : Place) → q ≢ Clock → q ≢ flushed_of v.post.vcpu → told_word w q ≡ told_word v q
begins_leaves v w d run life b telling q off away =
    let first = came_telling v b.acked (acks_came v b.acked b.acks) ∙ telling in
    load_tells b.looked w _ _ _ _ b.lives (moves_telling b.acked b.looked _ _ _ _ _ b.running ∙ first) q ∙ load_tells b.acked b.looked _ _ _ _ b.running first q ∙ ack_leaves v b.acked b.acks telling q off away
