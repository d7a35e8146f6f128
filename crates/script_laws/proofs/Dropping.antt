-- Translations that are dropped behind an update by address: that is done at once, and changes the clock and the words of flushes alone.
use Rattle.std.proofs.lemmas.Bool.{cases_Bool}
use Rattle.std.proofs.Common.{◌≡◌, ◌⊎◌, ℕ, ◌<◌, ◌==◌, ◌%◌, if◌then◌else◌, Bool, true, false, List, [], ◌∷◌, ◌++◌, Option, Some, None, Result, Ok, Err, refl, sym, ◌∙◌, subst, inl, inr}
use Rattle.xp_words.specs.declared.place.Place.{Place}
use Rattle.xp_words.specs.Machine.{Machine}
use Rattle.xp_words.specs.Places.{asked_of}
use Rattle.xp_words.specs.declared.place.Place.TheVariants.{Clock, Priv}
use Rattle.xp_words.specs.declared.reply.Pause.TheVariants as pauses
use Rattle.xp_words.specs.declared.reply.Refusal.{Refusal}
use Rattle.xp_words.specs.declared.reply.Refusal.TheVariants as refusals
use Rattle.xp_words.specs.declared.reply.Stop.{Stop}
use Rattle.xp_words.specs.declared.reply.Stop.TheVariants.{Refused, Paused}
use Rattle.xp_board.specs.declared.step.Act.{Act}
use Rattle.xp_board.specs.declared.step.Act.TheVariants.{Load, Max}
use Rattle.xp_board.specs.declared.step.StepKind.TheVariants as kinds
use Rattle.xp_board.specs.Hands.{IsEmptyHand}
use Rattle.xp_board.specs.Readings.{domain_of, ref_count}
use Rattle.xp_board.specs.Steps.{is_same}
use Rattle.xp_board.specs.Told.{Post, PortValue, is_telling, told_word}
use Rattle.xp_board.proofs.PlaceTests.{same_or_other, same_place}
use Rattle.step_maker.specs.Answers.{Stops}
use Rattle.step_maker.specs.Asked.{Request}
use Rattle.step_maker.specs.Moves.{Came}
use Rattle.step_maker.specs.Plain.{Words, change}
use Rattle.step_maker.specs.Reasons.{OfOwner, Those, Whose}
use Rattle.step_maker.specs.Twins.{Alike, IsAlike}
use Rattle.step_maker.specs.Visits.{Does, Nothing, Only, Then, Visit, Where, visit}
use Rattle.step_maker.proofs.Alikes.{alike_same, alike_trans, same_alike}
use Rattle.step_maker.proofs.Coming.{came_post, came_self, came_trans, met_after, met_before}
use Rattle.step_maker.proofs.Telling.{load_leaves, load_tells, moves_telling}
use Rattle.answer_laws.proofs.Shared.{alone_telling}
use Rattle.course_laws.proofs.Awaiting.{AloneStays, NeitherLostNorBusy, NobodyWaitedFor, clock_by}
use Rattle.replay_laws.specs.Replays.{Replays, SameWords}
use Rattle.replay_laws.proofs.Replaying.{does_replays}
use Rattle.flush_words.specs.Flushing.{FlushedBy}
use Rattle.flush_words.specs.Flushing as flushing
use Rattle.flush_waits.specs.Listing.{LooksAt, Slow, WaitsInOrder, WeighsBy, saw_flushed, saw_run}
use Rattle.flush_waits.specs.Listing as listing
use Rattle.mmuext_ops.specs.Course.{FlushedLocal}
use Rattle.mmuext_ops.specs.Course as performing
use Rattle.mmuext_ops.specs.Elements.{every_vcpu}
use Rattle.mmuext_ops.specs.declared.element.Element.{Element}
use Rattle.mmuext_ops.specs.declared.element.Element.TheVariants.{FlushLocal, FlushVcpus, Invalidate}
use Rattle.script_law.specs.Values.{Solo}
use Rattle.solo_ports.specs.Standing.{Fair, Stands, StaysAlike}
use Rattle.solo_ports.proofs.Along.{stands_on}
use Rattle.tlb_walks.specs.Addresses.{is_canonical, page_of}
use Rattle.tlb_walks.specs.Dropping.{ForgetsBy}
use Rattle.vcpu_turn.specs.Mappings.{DropsBehind, DropsOwn, WaitsForAll, own_drop, waits_for_all}
use Rattle.vcpu_turn.specs.Mappings as mapping
use Rattle.vcpu_turn.proofs.Hindering.{drop_came, same_came, wait_came}

-- ---- steps that are no more than looks, but at the clock and words of flushes
abbrev IsMild : Visit → Type 0
IsMild x = (x.act ≡ Load) ⊎ ((y z : ℕ) → IsAlike x.place y z)

AllMild : List Visit → Type 0
AllMild [] = Unit {0}
AllMild (x ∷ xs) = IsMild x × AllMild xs

mild_more : (xs ys : List Visit) → AllMild xs → AllMild ys → AllMild (xs ++ ys)
unfolding AllMild
mild_more [] ys a b = b
mild_more (x ∷ xs) ys a b = (a.0, mild_more xs ys a.1 b)

change_off : (a : Act) (p q : Place) (m : Words) → (q ≡ p → ⊥) → change a p m q ≡ m q
change_off a p q m off = elim (cases_Bool (is_same q p)) [
  | inl same ↦ absurd (off (same_place q p same))
  | inr other ↦ rw other refl
]

alike_step : (x : Visit) (u w : Words) → IsMild x → SameWords (change x.act x.place u) w → Alike w u
alike_step x u w (inl load) same = same_alike w u (λ q. same q ∙ subst (λ a. change a x.place u q ≡ u q) (sym load) (load_leaves x.place u q))
alike_step x u w (inr free) same = λ q. elim (same_or_other q x.place) [
  | inl here ↦ subst (λ p. IsAlike p (w q) (u q)) (sym here) (free (w q) (u q))
  | inr off ↦ alike_same q (w q) (u q) (same q ∙ change_off x.act x.place q u off)
]

replays_alike : (m w : Words) (vs : List Visit) → AllMild vs → Replays m vs w → Alike w m
unfolding AllMild
replays_alike m w [] mild r = same_alike w m r
replays_alike m w (x ∷ xs) mild r = alike_trans w r.0 m (alike_step x r.0 w mild.0 r.3) (replays_alike m r.0 xs mild.1 r.1)

does_alike : (v w : PortValue) (P : List Visit → Type 0) → is_telling v ≡ true → ((vs : List Visit) → P vs → AllMild vs) → Does v w P → Alike (told_word w) (told_word v)
does_alike v w P telling mild does = let r = does_replays v w P telling does in replays_alike (told_word v) (told_word w) r.list (mild r.list r.like) r.replays

-- ---- flushes, and waits for them
mild_flushed : (s : ℕ) (r : Result (Unit {0}) Refusal) (vs : List Visit) → FlushedBy s r vs → AllMild vs
unfolding AllMild
mild_flushed s _ _ flushing.FlushedBy.none = (inl refl, tt)
mild_flushed s _ _ (flushing.FlushedBy.once clock found to before low left) = (inr (λ y z four five. absurd (five refl)), (inr (λ y z. tt), (inl refl, tt)))

mild_only : (x : Visit) (vs : List Visit) → IsMild x → Only x vs → AllMild vs
unfolding AllMild
mild_only x vs mild is = subst AllMild (sym is) (mild, tt)

mild_nothing : (vs : List Visit) → Nothing vs → AllMild vs
unfolding AllMild
mild_nothing vs is = subst AllMild (sym is) tt

mild_then : (P Q : List Visit → Type 0) (vs : List Visit) → ((xs : List Visit) → P xs → AllMild xs) → ((xs : List Visit) → Q xs → AllMild xs) → Then P Q vs → AllMild vs
mild_then P Q vs p q t = subst AllMild (sym t.list) (mild_more t.after t.before (q t.after t.next) (p t.before t.first))

mild_weighed : (n : Machine) (whose : Whose) (u : ℕ) (b : Bool) (vs : List Visit) → WeighsBy n whose u b vs → AllMild vs
mild_weighed n (OfOwner owner) u b vs (inl own) = mild_nothing vs own.2
mild_weighed n (OfOwner owner) u b vs (inr other) = mild_only (visit (Priv (domain_of n u)) Load other.1.0) vs (inl refl) other.1.2
mild_weighed n (Those means) u b vs w = mild_nothing vs w.1

mild_look : (q : Post) (whose : Whose) (stamp u : ℕ) (vs : List Visit) (r : Result (Option ℕ) Refusal) → LooksAt q whose stamp u vs r → AllMild vs
mild_look q whose stamp u vs _ (listing.LooksAt.unmeant means is off none) = mild_nothing vs none
mild_look q whose stamp u vs _ (listing.LooksAt.idle x other off one) = mild_only (saw_run u x) vs (inl refl) one
mild_look q whose stamp u vs _ (listing.LooksAt.late y other after t) = mild_then _ _ vs (λ xs. mild_only (saw_run u 0) xs (inl refl)) (λ xs. mild_only (saw_flushed u y) xs (inl refl)) t
mild_look q whose stamp u vs _ (listing.LooksAt.barred y other before t) =
    mild_then _ _ vs (λ xs. mild_only (saw_run u 0) xs (inl refl)) (λ xs. mild_then _ _ xs (λ ys. mild_only (saw_flushed u y) ys (inl refl)) (λ ys. mild_weighed q.machine whose u false ys)) t
mild_look q whose stamp u vs _ (listing.LooksAt.behind y z other before t) =
    mild_then _ _ vs (λ xs. mild_only (saw_run u 0) xs (inl refl))
    (λ xs. mild_then _ _ xs (λ ys. mild_only (saw_flushed u y) ys (inl refl)) (λ ys. mild_then _ _ ys (λ zs. mild_weighed q.machine whose u true zs) (λ zs. mild_only (visit (asked_of u) (Max stamp) z) zs (inr (λ y z four five. absurd (four refl)))))) t
mild_look q whose stamp u vs _ (listing.LooksAt.own_late y own after one) = mild_only (saw_flushed u y) vs (inl refl) one
mild_look q whose stamp u vs _ (listing.LooksAt.own_flushed y own before t) = mild_then _ _ vs (λ xs. mild_only (saw_flushed u y) xs (inl refl)) (λ xs. mild_flushed u (Ok tt) xs) t
mild_look q whose stamp u vs _ (listing.LooksAt.own_spent y r own before t) = mild_then _ _ vs (λ xs. mild_only (saw_flushed u y) xs (inl refl)) (λ xs. mild_flushed u (Err r) xs) t

mild_waits : (q : Post) (whose : Whose) (stamp : ℕ) (vs : List Visit) (n : ℕ) (r : Result (Option Slow) Refusal) → WaitsInOrder q whose stamp vs n r → AllMild vs
mild_waits q whose stamp _ _ _ (listing.WaitsInOrder.none vs none) = mild_nothing vs none
mild_waits q whose stamp _ _ _ (listing.WaitsInOrder.more u first standing before now vs done look is) = subst AllMild (sym is) (mild_more now before (mild_look q whose stamp u now (Ok standing) look) (mild_waits q whose stamp before u (Ok first) done))
mild_waits q whose stamp _ _ _ (listing.WaitsInOrder.spent u first r before now vs done look is) = subst AllMild (sym is) (mild_more now before (mild_look q whose stamp u now (Err r) look) (mild_waits q whose stamp before u (Ok first) done))

mild_where : (b : Bool) (page : ℕ) (vs : List Visit) → Where b (ForgetsBy page) vs → AllMild vs
mild_where true page vs w = mild_only _ vs (inl refl) w.1
mild_where false page vs w = mild_nothing vs w

-- ---- a part of steps that are fair
fair_part : (u y w : PortValue) → Came u y → Came y w → Fair u w → Fair u y
fair_part u y w a b f = record { clock = λ m met. f.clock m (met_before u y w m met b); room = λ m g met. f.room m g (met_before u y w m met b) }

fair_rest : (u y w : PortValue) → Came u y → Fair u w → Fair y w
fair_rest u y w a f =
    record {
      clock = λ m met. f.clock m (met_after u y w m a met);
      room = λ m g met at. subst (λ (p : Post). ref_count m.found < p.machine.limit) (sym (came_post u y a)) (f.room m g (met_after u y w m a met) at);
    }

-- ---- the elements that drop translations

module _ (stays : AloneStays) (neither : NeitherLostNorBusy) (nobody : NobodyWaitedFor) (v0 : PortValue) (d : ℕ) where
  module _ (u w : PortValue) (s : Solo) (stands : Stands u s) (fair : Fair u w) where
    telling : is_telling u ≡ true
    telling = alone_telling u stands.alone

    spent : (r : Request) (y : ℕ) → Stops u w r (Refused (refusals.Clock y)) → ⊥
    spent r y stops = clock_by u w u w r y fair.clock (came_self u) (came_self w) stops

    local_alike : (answers : List Bool) → FlushedLocal u w answers (Ok tt) → Alike (told_word w) (told_word u)
    local_alike _ (performing.FlushedLocal.flushed does none) = does_alike u w _ telling (λ vs. mild_flushed u.post.vcpu (Ok tt) vs) does

    own_done : (e : Option Element) → ((x : Element) → e ≡ Some x → (x ≡ FlushLocal) ⊎ ((va : ℕ) × (x ≡ Invalidate va))) → (r : Result (Unit {0}) Stop) → DropsOwn d e u w r → (r ≡ Ok tt) × StaysAlike u w
    own_done None is r drops = (drops.1, record { came = same_came u w drops.0; words = subst (λ y. Alike (told_word y) (told_word u)) (sym drops.0) (same_alike (told_word u) (told_word u) (λ q. refl)); empty = subst (λ (y : PortValue). IsEmptyHand y.holdings) (sym drops.0) stands.empty })
    own_done (Some FlushLocal) is (Ok done) p = (refl, record { came = drop_came d (Some FlushLocal) u w (Ok tt) p; words = local_alike [] p.course; empty = p.rests.empty })
    own_done (Some FlushLocal) is (Err (Refused (refusals.Clock y))) p = absurd (spent _ y p.stops)
    own_done (Some FlushLocal) is (Err (Refused y)) p = absurd p.kinds
    own_done (Some FlushLocal) is (Err (Paused y)) p = absurd p.kinds
    own_done (Some (Invalidate va)) is (Ok done) p =
        (refl, record { came = drop_came d (Some (Invalidate va)) u w (Ok tt) p; words = does_alike u w _ telling (λ vs. mild_where (is_canonical va) (page_of va) vs) p.course.steps; empty = p.rests.empty })
    own_done (Some (Invalidate va)) is (Err y) p = absurd p.kinds
    own_done (Some x) is r p = absurd (elim (is x refl) [ inl a ↦ cc | inr b ↦ (let k = b.1 in cc) ])

    -- none but the own vCPU is there
    all_done : (b : Bool) (r : Result (Unit {0}) Stop) → WaitsForAll d b None u w r → (r ≡ Ok tt) × StaysAlike u w
    all_done false r drops = (drops.1, record { came = same_came u w drops.0; words = subst (λ y. Alike (told_word y) (told_word u)) (sym drops.0) (same_alike (told_word u) (told_word u) (λ q. refl)); empty = subst (λ (y : PortValue). IsEmptyHand y.holdings) (sym drops.0) stands.empty })
    all_done true (Ok done) p =
        let c = p.course in
        let looked = c.looked in
        let first = same_alike (told_word looked) (told_word u) (load_tells u looked Clock kinds.Look None c.clock c.looks telling) in
        let told : is_telling looked ≡ true = moves_telling u looked Clock Load kinds.Look None c.clock c.looks ∙ telling in
        let behind = does_alike looked w _ told (λ vs. mild_waits u.post _ _ vs _ _) c.waits in
        (refl, record { came = drop_came d (Some (FlushVcpus every_vcpu)) u w (Ok tt) p; words = alike_trans (told_word w) (told_word looked) (told_word u) behind first; empty = p.rests.empty })
    all_done true (Err (Refused (refusals.Clock y))) p = absurd (spent _ y p.stops)
    all_done true (Err (Refused y)) p = absurd p.kinds
    all_done true (Err (Paused (pauses.Flush t stamp found))) p = absurd (nobody u w _ t stamp found stands.only p.stops)
    all_done true (Err (Paused y)) p = absurd p.kinds

  own_is : (flags va : ℕ) (x : Element) → own_drop flags va ≡ Some x → (x ≡ FlushLocal) ⊎ ((a : ℕ) × (x ≡ Invalidate a))
  own_is flags va x is = elim (cases_Bool (flags % 4 == 1)) [
    | inl one ↦ inl (let k = subst (λ b. (if b then Some FlushLocal else if flags % 4 == 2 then Some (Invalidate va) else None) ≡ Some x) one is in cc)
    | inr off ↦ (
        let k = subst (λ b. (if b then Some FlushLocal else if flags % 4 == 2 then Some (Invalidate va) else None) ≡ Some x) off is in
        elim (cases_Bool (flags % 4 == 2)) [
          | inl two ↦ inr (va, (let j = subst (λ b. (if b then Some (Invalidate va) else None) ≡ Some x) two k in cc))
          | inr none ↦ absurd (let j = subst (λ b. (if b then Some (Invalidate va) else None) ≡ Some x) none k in cc)
        ]
        )
  ]

  pub drops : (flags va : ℕ) (u w : PortValue) (s : Solo) (r : Result (Unit {0}) Stop) → Stands u s → Fair u w → DropsBehind d flags va u w r → (r ≡ Ok tt) × StaysAlike u w
  drops flags va u _ s _ stands fair (mapping.DropsBehind.undropped w e own) = absurd (let k = (own_done u w s stands fair (own_drop flags va) (own_is flags va) (Err e) own).0 in cc)
  drops flags va u _ s _ stands fair (mapping.DropsBehind.dropped y w answer own waits) =
      let on = wait_came d (waits_for_all flags) None y w answer waits in
      let first = own_done u y s stands (fair_part u y w (drop_came d (own_drop flags va) u y (Ok tt) own) on fair) (own_drop flags va) (own_is flags va) (Ok tt) own in
      let next = all_done y w s (stands_on stays u y s first.1 stands) (fair_rest u y w first.1.came fair) (waits_for_all flags) answer waits in
      (next.0, record { came = came_trans u y w first.1.came next.1.came; words = alike_trans (told_word w) (told_word y) (told_word u) next.1.words first.1.words; empty = next.1.empty })
