-- A refusal shows settled words.
use Rattle.std.proofs.Common.{◌≡◌, ℕ, Bool, false, List, Option, Err, refl, subst}
use Rattle.xp_words.specs.declared.reply.Refusal.{Refusal}
use Rattle.xp_words.specs.declared.reply.Refusal.TheVariants.{AlreadyPinned, NotPinned, OtherType, WrongOwner}
use Rattle.xp_words.specs.declared.reply.Stop.TheVariants.{Refused}
use Rattle.xp_board.specs.Readings.{is_dying}
use Rattle.xp_board.specs.Told.{PortValue}
use Rattle.foreign_map.specs.declared.owners.Owners.{Owners}
use Rattle.desc_pages.specs.Descriptors.{DescriptorUpdated}
use Rattle.desc_pages.specs.Gdt.{GdtSet}
use Rattle.ldt_pages.specs.Touching.{LdtTouched}
use Rattle.mmu_update.specs.Addresses.{UpdatedAt}
use Rattle.mmu_update.specs.Course.{Updated}
use Rattle.mmuext_ops.specs.Course.{Performed}
use Rattle.mmu_update.specs.Fits.{Updates}
use Rattle.mmu_update.specs.UpdatesAt.{UpdatesAt}
use Rattle.mmu_update.specs.declared.element.Element as pairs
use Rattle.mmuext_ops.specs.declared.element.Element.{Element}
use Rattle.vcpu_turn.specs.Descriptors.{DescriptorFits, DescriptorTask, SetDescriptor, SetGdt, TouchLdt}
use Rattle.vcpu_turn.specs.Ext.{Performs}
use Rattle.reservations.specs.Extents.{Reserves}
use Rattle.reservations.specs.declared.extents.Extent.{Extent}
use Rattle.shown_words.specs.Shown.{ShowsSettled, StandsAlone}
use Rattle.shown_words.proofs.Acquiring.{acquired_shows}
use Rattle.shown_words.proofs.Addressing.{updated_at_shows}
use Rattle.shown_words.proofs.Extending.{extent_shows}
use Rattle.shown_words.proofs.Paging.{cleared_shows, copied_shows, descriptor_shows, gdt_shows, ldt_shows, touched_shows}
use Rattle.shown_words.proofs.Performing.{performed_shows}
use Rattle.shown_words.proofs.Spelling.{ShowsSpelled, shown_spelled}
use Rattle.shown_words.proofs.Standing.{stands_machine, stands_none, stands_telling}
use Rattle.shown_words.proofs.Writing.{updated_shows}

-- no word that it shows is of a frame that is just being given back
abbrev ShowsAlive : Refusal → Type 0
ShowsAlive r = (g x : ℕ) → r ≡ WrongOwner g x → is_dying x ≡ false

both : (r : Refusal) → ShowsSpelled r → ShowsAlive r → ShowsSettled r
both (WrongOwner f w) spelled alive = (alive f w refl, spelled)
both (OtherType f want w) spelled alive = spelled
both (AlreadyPinned w) spelled alive = spelled
both (NotPinned w) spelled alive = spelled
both _ spelled alive = tt

pub element_settled : (v w : PortValue) (d : ℕ) (e : Element) (awaited : Option ℕ) (answers : List Bool) (r : Refusal) → StandsAlone v → Performs d e awaited v w answers (Err (Refused r)) → ShowsSettled r
element_settled v w d e awaited answers r s p =
    both r (shown_spelled v w _ r p.stops)
    (λ g x is. performed_shows acquired_shows ldt_shows cleared_shows copied_shows v w d e awaited answers g x (stands_machine v s) (stands_telling v s) (stands_none v s) (subst (λ y. Performed v w d e awaited answers (Err (Refused y))) is p.course))

pub word_settled : (v w : PortValue) (o : Owners) (e : pairs.Element) (answers : List Bool) (r : Refusal) → StandsAlone v → Updates o e v w answers (Err (Refused r)) → ShowsSettled r
word_settled v w o e answers r s p =
    both r (shown_spelled v w _ r p.stops)
    (λ g x is. updated_shows acquired_shows v o e w answers g x (stands_machine v s) (stands_telling v s) (stands_none v s) (subst (λ y. Updated v o e w answers (Err (Refused y))) is p.course))

pub mapped_settled : (v w : PortValue) (o : Owners) (va word : ℕ) (answers : List Bool) (r : Refusal) → StandsAlone v → UpdatesAt o va word v w answers (Err (Refused r)) → ShowsSettled r
mapped_settled v w o va word answers r s p =
    both r (shown_spelled v w _ r p.stops)
    (λ g x is. updated_at_shows acquired_shows v o va word p.table w answers g x (stands_machine v s) (stands_telling v s) (stands_none v s) (subst (λ y. UpdatedAt v o va word p.table w answers (Err (Refused y))) is p.course))

pub descriptors_settled : (v w : PortValue) (t : DescriptorTask) (r : Refusal) → StandsAlone v → DescriptorFits t v w (Err (Refused r)) → ShowsSettled r
descriptors_settled v w (SetGdt entries frames) r s p =
    both r (shown_spelled v w _ r p.stops) (λ g x is. gdt_shows v w entries frames g x (stands_machine v s) (stands_telling v s) (stands_none v s) (subst (λ y. GdtSet v w entries frames (Err (Refused y))) is p))
descriptors_settled v w (SetDescriptor address word) r s p =
    both r (shown_spelled v w _ r p.stops) (λ g x is. descriptor_shows v w address word g x (stands_machine v s) (stands_telling v s) (stands_none v s) (subst (λ y. DescriptorUpdated v w address word (Err (Refused y))) is p))
descriptors_settled v w (TouchLdt page) r s p =
    both r (shown_spelled v w _ r p.stops) (λ g x is. touched_shows v w page g x (stands_machine v s) (stands_telling v s) (stands_none v s) (subst (λ y. LdtTouched v w page (Err (Refused y))) is p))

pub extent_settled : (v w : PortValue) (d size : ℕ) (e : Extent) (from to : ℕ) (r : Refusal) → StandsAlone v → Reserves d size e from v to w (Err (Refused r)) → ShowsSettled r
extent_settled v w d size e from to r s p =
    both r (shown_spelled v w _ r p.stops.1)
    (λ g x is. extent_shows v w d size e from to g x (stands_machine v s) (stands_telling v s) (stands_none v s) (subst (λ y. Reserves d size e from v to w (Err (Refused y))) is p))
