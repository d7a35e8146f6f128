-- Elements of mmu_update and of mmuext_op are determined by the words found and by the gate's answers.
use Rattle.std.proofs.Common.{◌≡◌, ◌<◌, ℕ, Bool, true, false, List, [], ◌∷◌, length, Option, Some, None, Result, Ok, Err, refl, sym, ap, ◌∙◌, subst, inl, inr}
use Rattle.xp_words.specs.declared.place.Place.TheVariants.{Clock}
use Rattle.xp_words.specs.declared.reply.Refusal.{Refusal}
use Rattle.xp_words.specs.declared.reply.Refusal.TheVariants as refusals
use Rattle.xp_words.specs.declared.reply.Stop.{Stop}
use Rattle.xp_words.specs.declared.reply.Stop.TheVariants.{Refused}
use Rattle.xp_board.specs.Told.{PortValue}
use Rattle.xp_board.specs.declared.step.Act.TheVariants.{Load}
use Rattle.xp_board.specs.declared.step.Mark.TheVariants.{Forget}
use Rattle.xp_board.specs.declared.step.StepKind.TheVariants as kinds
use Rattle.step_maker.specs.Moves.{Came, Moves}
use Rattle.step_maker.specs.Reasons.{Those}
use Rattle.step_maker.specs.Visits.{Does, Visit, Where}
use Rattle.step_maker.proofs.Coming.{came_self, came_trans, moves_came}
use Rattle.step_maker.proofs.Visiting.{does_came}
use Rattle.xp_preempt.specs.Gates.{GivesAnswers}
use Rattle.flush_words.specs.Flushing.{FlushedBy}
use Rattle.flush_waits.specs.Listing.{WaitedFor}
use Rattle.flush_waits.specs.Waiting.{meant}
use Rattle.foreign_map.specs.declared.owners.Owners.{Owners}
use Rattle.tlb_walks.specs.Addresses.{is_canonical, page_of}
use Rattle.tlb_walks.specs.Dropping.{ForgetsBy}
use Rattle.mmu_update.specs.Course.{Updated}
use Rattle.mmu_update.specs.declared.element.Element.TheVariants as updates
use Rattle.mmu_update.specs.declared.element.Element as updating
use Rattle.mmuext_ops.specs.Course as course
use Rattle.mmuext_ops.specs.Course.{FlushedLocal, Invalidated, Performed, WaitedForVcpus, stamp_for}
use Rattle.mmuext_ops.specs.declared.element.Element.{Element}
use Rattle.mmuext_ops.specs.declared.element.Element.TheVariants as elements
use Rattle.determined_laws.specs.Courses.{Alike}
use Rattle.determined_laws.specs.Forks.{Agree, Tie}
use Rattle.determined_laws.proofs.Courses.{alike_does, alike_map, alike_move, alike_next, alike_same}
use Rattle.determined_laws.proofs.References.{maps_tie}
use Rattle.determined_laws.proofs.Ties.{tie_lists, tie_map, tie_one}
use Rattle.determined_laws.proofs.Waited.{waited_tie}
use Rattle.determined_laws.proofs.Waits.{flushed_tie}
use Rattle.determined_tables.proofs.Gdt.{sets_ldt_alike, sets_ldt_came}
use Rattle.determined_tables.proofs.Whole.{clears_page_alike, clears_page_came, copies_page_alike, copies_page_came}
use Rattle.determined_releases.proofs.Bases.{sets_base_alike, sets_base_came}
use Rattle.determined_calls.proofs.Pinning.{pinned_alike, pinned_came, unpinned_alike, unpinned_came}
use Rattle.determined_calls.proofs.Updating.{wrote_alike, wrote_came}

abbrev Done : Type 0
Done = Result (Unit {0}) Stop

-- ---- mmu_update
pub updated_came : (v : PortValue) (o : Owners) (e : updating.Element) (w : PortValue) (answers : List Bool) (a : Done) → Updated v o e w answers a → Came v w
updated_came v o (updates.SetM2p f gpfn) w answers a p = does_came v w _ p.1
updated_came v o (updates.Write f i word keep) w answers a p = wrote_came p
updated_came v o updates.Misaligned w answers a p = subst (λ z. Came v z) (sym p.0) (came_self v)
updated_came v o updates.Unknown w answers a p = subst (λ z. Came v z) (sym p.0) (came_self v)

done_agree : (a b : Done) → Agree a b → a ≡ b
done_agree (Ok x) (Ok y) s = refl
done_agree (Err e) (Err f) s = ap (λ z. Err z) s
done_agree (Ok x) (Err e) s = absurd s
done_agree (Err e) (Ok x) s = absurd s

pub updated_alike : (v : PortValue) (o : Owners) (e : updating.Element) (w x : PortValue) (answers others : List Bool) (a b : Done) (says : ℕ → Bool) (n : ℕ) → GivesAnswers says n answers → GivesAnswers says n others →
    Updated v o e w answers a → Updated v o e x others b → Alike v w x ((answers ≡ others) × (a ≡ b))
updated_alike v o (updates.SetM2p f gpfn) w x answers others a b says n g h p q =
    alike_map (alike_does p.1 q.1 (λ us vs c d. maps_tie v.post.machine f o.frames gpfn a b us vs c d)) (λ s. (p.0 ∙ sym q.0, done_agree a b s))
updated_alike v o (updates.Write f i word keep) w x answers others a b says n g h p q = wrote_alike says n g h p q
updated_alike v o updates.Misaligned w x answers others a b says n g h p q = alike_same (p.0 ∙ sym q.0) (p.1 ∙ sym q.1, p.2 ∙ sym q.2)
updated_alike v o updates.Unknown w x answers others a b says n g h p q = alike_same (p.0 ∙ sym q.0) (p.1 ∙ sym q.1, p.2 ∙ sym q.2)

-- ---- translations that are dropped, and waits
flushed_local_came : (v w : PortValue) (answers : List Bool) (a : Done) → FlushedLocal v w answers a → Came v w
flushed_local_came v w _ _ (course.FlushedLocal.flushed does hand) = does_came v w _ does
flushed_local_came v w _ _ (course.FlushedLocal.spent does hand) = does_came v w _ does

flush_alike : (v w x : PortValue) (a b : Result (Unit {0}) Refusal) → Does v w (FlushedBy v.post.vcpu a) → Does v x (FlushedBy v.post.vcpu b) → Alike v w x (a ≡ b)
flush_alike v w x a b p q = alike_does p q (λ us vs c d. flushed_tie v.post.vcpu a b us vs c d)

flushed_local_alike : (v w x : PortValue) (answers others : List Bool) (a b : Done) → FlushedLocal v w answers a → FlushedLocal v x others b → Alike v w x ((answers ≡ others) × (a ≡ b))
flushed_local_alike v w x _ _ _ _ (course.FlushedLocal.flushed p hand) (course.FlushedLocal.flushed q other) = alike_map (flush_alike v w x _ _ p q) (λ s. (refl, refl))
flushed_local_alike v w x _ _ _ _ (course.FlushedLocal.flushed p hand) (course.FlushedLocal.spent q same) = alike_map (flush_alike v w x _ _ p q) (λ s. absurd (let t = s in cc))
flushed_local_alike v w x _ _ _ _ (course.FlushedLocal.spent p same) (course.FlushedLocal.flushed q hand) = alike_map (flush_alike v w x _ _ p q) (λ s. absurd (let t = s in cc))
flushed_local_alike v w x _ _ _ _ (course.FlushedLocal.spent p same) (course.FlushedLocal.spent q still) = alike_map (flush_alike v w x _ _ p q) (λ s. (refl, refl))

forgets_tie : (b : Bool) (page : ℕ) (us vs : List Visit) → Where b (ForgetsBy page) us → Where b (ForgetsBy page) vs → Tie us vs (Unit {0})
forgets_tie true page us vs p q = tie_map us vs _ _ (tie_lists us vs _ _ _ p.1 q.1 (tie_one kinds.Look Clock Load (Some (Forget page)) p.0 q.0)) (λ e. tt)
forgets_tie false page us vs p q = inr (p ∙ sym q, tt)

invalidated_alike : (v w x : PortValue) (va : ℕ) (answers others : List Bool) (a b : Done) → Invalidated v w va answers a → Invalidated v x va others b → Alike v w x ((answers ≡ others) × (a ≡ b))
invalidated_alike v w x va answers others a b p q =
    alike_map (alike_does p.steps q.steps (λ us vs c d. forgets_tie (is_canonical va) (page_of va) us vs c d)) (λ s. (p.no_ask ∙ sym q.no_ask, p.done ∙ sym q.done))

waited_came : {v w : PortValue} {mask : ℕ} {awaited : Option ℕ} {answers : List Bool} {a : Done} → WaitedForVcpus v w mask awaited answers a → Came v w
waited_came {v} {w} p = came_trans v p.looked w (moves_came v p.looked _ _ _ _ _ p.looks) (does_came p.looked w _ p.waits)

waited_alike : (v w x : PortValue) (mask : ℕ) (awaited : Option ℕ) (answers others : List Bool) (a b : Done) → WaitedForVcpus v w mask awaited answers a → WaitedForVcpus v x mask awaited others b →
    Alike v w x ((answers ≡ others) × (a ≡ b))
waited_alike v w x mask awaited answers others a b p q =
    alike_next (λ z. Does z x (λ vs. WaitedFor v.post (Those (meant v.post.machine v.post.vcpu mask)) (stamp_for awaited q.clock) b vs)) (moves_came v p.looked _ _ _ _ _ p.looks) (does_came p.looked w _ p.waits) (does_came q.looked x _ q.waits)
    (alike_move p.looks q.looks) q.waits
    (λ e more. alike_map (alike_does p.waits (subst (λ z. Does p.looked x (λ vs. WaitedFor v.post (Those (meant v.post.machine v.post.vcpu mask)) (stamp_for awaited z) b vs)) (sym e) more)
    (λ us vs c d. waited_tie v.post (Those (meant v.post.machine v.post.vcpu mask)) (stamp_for awaited p.clock) p.looks.finds.real a b us vs c d)) (λ s. (p.no_ask ∙ sym q.no_ask, s)))

-- ---- mmuext_op
pub performed_came : (v w : PortValue) (d : ℕ) (e : Element) (awaited : Option ℕ) (answers : List Bool) (a : Done) → Performed v w d e awaited answers a → Came v w
performed_came v w d (elements.Pin f level) awaited answers a p = pinned_came p
performed_came v w d (elements.Unpin f) awaited answers a p = unpinned_came p
performed_came v w d (elements.NewBase f) awaited answers a p = sets_base_came p
performed_came v w d (elements.NewUserBase f) awaited answers a p = sets_base_came p
performed_came v w d elements.FlushLocal awaited answers a p = flushed_local_came v w answers a p
performed_came v w d (elements.Invalidate va) awaited answers a p = does_came v w _ p.steps
performed_came v w d (elements.FlushVcpus mask) awaited answers a p = waited_came p
performed_came v w d (elements.SetLdt address entries) awaited answers a p = sets_ldt_came p.1
performed_came v w d (elements.ClearPage f) awaited answers a p = clears_page_came p.1
performed_came v w d (elements.CopyPage to from) awaited answers a p = copies_page_came p.1.1
performed_came v w d elements.Unknown awaited answers a p = subst (λ z. Came v z) (sym p.0) (came_self v)

pub performed_alike : (v w x : PortValue) (d : ℕ) (e : Element) (awaited : Option ℕ) (answers others : List Bool) (a b : Done) (says : ℕ → Bool) (n : ℕ) → GivesAnswers says n answers → GivesAnswers says n others →
    Performed v w d e awaited answers a → Performed v x d e awaited others b → Alike v w x ((answers ≡ others) × (a ≡ b))
performed_alike v w x d (elements.Pin f level) awaited answers others a b says n g h p q = pinned_alike says n g h p q
performed_alike v w x d (elements.Unpin f) awaited answers others a b says n g h p q = unpinned_alike says n g h p q
performed_alike v w x d (elements.NewBase f) awaited answers others a b says n g h p q = sets_base_alike says n g h p q
performed_alike v w x d (elements.NewUserBase f) awaited answers others a b says n g h p q = sets_base_alike says n g h p q
performed_alike v w x d elements.FlushLocal awaited answers others a b says n g h p q = flushed_local_alike v w x answers others a b p q
performed_alike v w x d (elements.Invalidate va) awaited answers others a b says n g h p q = invalidated_alike v w x va answers others a b p q
performed_alike v w x d (elements.FlushVcpus mask) awaited answers others a b says n g h p q = waited_alike v w x mask awaited answers others a b p q
performed_alike v w x d (elements.SetLdt address entries) awaited answers others a b says n g h p q = alike_map (sets_ldt_alike p.1 q.1) (λ s. (p.0 ∙ sym q.0, s))
performed_alike v w x d (elements.ClearPage f) awaited answers others a b says n g h p q = alike_map (clears_page_alike p.1 q.1) (λ s. (p.0 ∙ sym q.0, s))
performed_alike v w x d (elements.CopyPage to from) awaited answers others a b says n g h p q = alike_map (copies_page_alike p.1.1 q.1.1) (λ s. (p.0 ∙ sym q.0, s.0))
performed_alike v w x d elements.Unknown awaited answers others a b says n g h p q = alike_same (p.0 ∙ sym q.0) (p.1 ∙ sym q.1, p.2 ∙ sym q.2)
