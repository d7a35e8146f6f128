-- Operations on whole pages and descriptor tables: what they refuse for an owner shows no frame that is just being given back.
use Rattle.std.proofs.Common.{◌≡◌, ℕ, ◌+◌, ◌-◌, ◌%◌, ◌==◌, ◌&&◌, not, if◌then◌else◌, Bool, true, false, List, length, get_or, Option, Some, None, Result, Ok, Err, refl, sym, ap, ◌∙◌, subst}
use Rattle.xp_words.specs.Machine.{IsMachine, Machine}
use Rattle.xp_words.specs.declared.kind.PageType.{PageType}
use Rattle.xp_words.specs.declared.place.Place.TheVariants.{Kind, Vcpu}
use Rattle.xp_words.specs.declared.reply.Refusal.{Refusal}
use Rattle.xp_words.specs.declared.reply.Refusal.TheVariants as refusals
use Rattle.xp_words.specs.declared.reply.Refusal.TheVariants.{WrongOwner}
use Rattle.xp_words.specs.declared.reply.Stop.{Stop}
use Rattle.xp_words.specs.declared.reply.Stop.TheVariants.{Refused}
use Rattle.xp_board.specs.Readings.{is_dying}
use Rattle.xp_board.specs.Told.{PortValue, is_telling, told_word}
use Rattle.step_maker.specs.Visits.{Does, Only, Visit}
use Rattle.step_maker.proofs.Coming.{moves_came}
use Rattle.step_maker.proofs.Telling.{came_telling}
use Rattle.table_entries.specs.Acquiring.{GotRef}
use Rattle.table_entries.proofs.Shared.{ref_came}
use Rattle.whole_pages.specs.Whole as whole
use Rattle.whole_pages.specs.Whole.{ClearsPage, CopiesPage}
use Rattle.desc_pages.specs.Pages.{GotDesc}
use Rattle.desc_pages.specs.Descriptors as update
use Rattle.desc_pages.specs.Descriptors.{DescriptorUpdated, StoredUnder, TookAs, UpdatesDescriptor, descriptor_refusal, frame_at, index_at}
use Rattle.desc_pages.specs.Gdt as gdt
use Rattle.desc_pages.specs.Gdt.{GdtSet, SetsGdt, TookPages, gdt_refusal, is_bad_gdt}
use Rattle.desc_pages.specs.Ldt as ldt
use Rattle.desc_pages.specs.Ldt.{SetsLdt, is_bad_ldt, is_canonical, ldt_refusal}
use Rattle.desc_pages.specs.Names.{own_domain}
use Rattle.xp_words.specs.declared.context.LdtBase.{LdtBase}
use Rattle.xp_words.specs.declared.kind.PageType.TheVariants.{L4}
use Rattle.xp_words.specs.Entries.{frame_of, is_bit, is_slot}
use Rattle.tlb_walks.specs.Addresses.{index_of, walk_refusal}
use Rattle.tlb_walks.specs.Translating.{Walks}
use Rattle.tlb_walks.specs.Walks as walks
use Rattle.tlb_walks.specs.Walks.{EntryBy, PathBy, WalkBy, barrier_with, base_visit, saw_entry, sets_bits}
use Rattle.tlb_walks.specs.declared.walks.Walked.{Walked}
use Rattle.ldt_pages.specs.Touching as touching
use Rattle.ldt_pages.specs.Touching.{FoundPage, LdtTouched, TouchesLdt, touch_address}
use Rattle.shown_words.specs.Shown.{NoneDies}
use Rattle.shown_words.proofs.Base.{Settling, look_settling, nothing_settling, ref_shows, settling_then}
use Rattle.shown_words.proofs.PageCalls.{AreOffRefs, memory_settling, memory_shows, memory_unowned, off_both, off_does, off_only, off_then, off_where, page_behind, page_settling, stop_of, took_unowned}

-- ---- whole pages
cleared_by : (v : PortValue) (d f : ℕ) (w : PortValue) (r : Result (Unit {0}) Stop) (g x : ℕ) → r ≡ Err (Refused (WrongOwner g x)) → is_telling v ≡ true →
    NoneDies (told_word v) → ClearsPage v d f w r → is_dying x ≡ false
cleared_by v d f _ _ g x is telling n (whole.ClearsPage.unhad w e page) = memory_shows v w f d (Err e) g x (ap (λ y. Err y) (stop_of e (WrongOwner g x) is)) telling n page
cleared_by v d f _ _ g x is telling n (whole.ClearsPage.cleared a b w page clears gave) = absurd cc

pub cleared_shows : (v : PortValue) (d f : ℕ) (w : PortValue) (g x : ℕ) → IsMachine v.post.machine → is_telling v ≡ true → NoneDies (told_word v) →
    ClearsPage v d f w (Err (Refused (WrongOwner g x))) → is_dying x ≡ false
cleared_shows v d f w g x machine telling n a = cleared_by v d f w (Err (Refused (WrongOwner g x))) g x refl telling n a

module _ (v : PortValue) (d to from g x : ℕ) (machine : IsMachine v.post.machine) (telling : is_telling v ≡ true) (n : NoneDies (told_word v)) where
  copied_by : (words : List ℕ) (w : PortValue) (r : Result (Unit {0}) Stop) → r ≡ Err (Refused (WrongOwner g x)) → CopiesPage v d to from words w r → is_dying x ≡ false
  copied_by words _ _ is (whole.CopiesPage.unhad w e page) = memory_shows v w to d (Err e) g x (ap (λ y. Err y) (stop_of e (WrongOwner g x) is)) telling n page
  copied_by words _ _ is (whole.CopiesPage.unreferred a b w e page ref gave) =
      let s = memory_settling v a to d (Ok to) to refl page in
      ref_shows a b from d g x (subst (λ y. GotRef a b from d (Err y)) (stop_of e (WrongOwner g x) is) ref) (came_telling v a s.came ∙ telling) (s.none machine telling n)
  copied_by words _ _ is (whole.CopiesPage.copied a b c e w all page ref copies gave back) = absurd cc

pub copied_shows : (v : PortValue) (d to from : ℕ) (words : List ℕ) (w : PortValue) (g x : ℕ) → IsMachine v.post.machine → is_telling v ≡ true → NoneDies (told_word v) →
    CopiesPage v d to from words w (Err (Refused (WrongOwner g x))) → is_dying x ≡ false
copied_shows v d to from words w g x machine telling n a = copied_by v d to from g x machine telling n words w (Err (Refused (WrongOwner g x))) refl a

-- ---- descriptor tables
taken_settling : (v : PortValue) (d : ℕ) (fs : List ℕ) (k : ℕ) (w : PortValue) → TookPages v d fs k w → Settling v w
taken_settling v d fs _ _ gdt.TookPages.none = nothing_settling v
taken_settling v d fs _ _ (gdt.TookPages.more k u w before page) = settling_then v u w (taken_settling v d fs k u before) (page_settling u w (get_or fs k 0) d (Ok (get_or fs k 0)) (get_or fs k 0) refl page)

-- what the numbers alone refuse is never an owner
gdt_numbers : (entries : ℕ) (fs : List ℕ) (r : Refusal) (g x : ℕ) → r ≡ WrongOwner g x → gdt_refusal entries fs ≡ Some r → ⊥
gdt_numbers entries fs r g x is = by (is_bad_gdt entries (length fs))
  where
    by : (b : Bool) → (if b then Some refusals.BadRange else None) ≡ Some r → ⊥
    by true e = absurd cc
    by false e = absurd cc

ldt_numbers : (address entries : ℕ) (r : Refusal) (g x : ℕ) → r ≡ WrongOwner g x → ldt_refusal address entries ≡ Some r → ⊥
ldt_numbers address entries r g x is = by (is_bad_ldt address entries) (is_canonical address)
  where
    by : (b c : Bool) → (if b then Some refusals.BadRange else if c then None else Some refusals.NonCanonical) ≡ Some r → ⊥
    by true c e = absurd cc
    by false true e = absurd cc
    by false false e = absurd cc

descriptor_numbers : (address : ℕ) (r : Refusal) (g x : ℕ) → r ≡ WrongOwner g x → descriptor_refusal address ≡ Some r → ⊥
descriptor_numbers address r g x is = by (address % 8 == 0)
  where
    by : (b : Bool) → (if b then None else Some refusals.BadRange) ≡ Some r → ⊥
    by true e = absurd cc
    by false e = absurd cc

same_refusal : (r s : Refusal) → ◌≡◌ {A = Result (Unit {0}) Stop} (Err (Refused r)) (Err (Refused s)) → r ≡ s
same_refusal r s is = cc

module _ (v : PortValue) (g x : ℕ) (machine : IsMachine v.post.machine) (telling : is_telling v ≡ true) (n : NoneDies (told_word v)) where
  gdt_by : (entries : ℕ) (fs : List ℕ) (w : PortValue) (r : Result (Unit {0}) Stop) → r ≡ Err (Refused (WrongOwner g x)) → SetsGdt v entries fs w r → is_dying x ≡ false
  gdt_by entries fs _ _ is (gdt.SetsGdt.barred y bars) = absurd (gdt_numbers entries fs y g x (same_refusal y (WrongOwner g x) is) bars)
  gdt_by entries fs _ _ is (gdt.SetsGdt.untaken k a b w e free took below page gives) =
      page_behind v a b (get_or fs k 0) (own_domain v) g x (taken_settling v (own_domain v) fs k a took) machine telling n
      (subst (λ y. GotDesc a (get_or fs k 0) (own_domain v) b (Err y)) (stop_of e (WrongOwner g x) is) page)
  gdt_by entries fs _ _ is (gdt.SetsGdt.set a w free took names) = absurd cc

  ldt_by : (address entries : ℕ) (w : PortValue) (r : Result (Unit {0}) Stop) → r ≡ Err (Refused (WrongOwner g x)) → SetsLdt v address entries w r → is_dying x ≡ false
  ldt_by address entries _ _ is (ldt.SetsLdt.barred y bars) = absurd (ldt_numbers address entries y g x (same_refusal y (WrongOwner g x) is) bars)
  ldt_by address entries _ _ is (ldt.SetsLdt.set u w old free names stores) = absurd cc

pub gdt_shows : (v w : PortValue) (entries : ℕ) (frames : List ℕ) (g x : ℕ) → IsMachine v.post.machine → is_telling v ≡ true → NoneDies (told_word v) →
    GdtSet v w entries frames (Err (Refused (WrongOwner g x))) → is_dying x ≡ false
gdt_shows v w entries frames g x machine telling n a = gdt_by v g x machine telling n entries frames w (Err (Refused (WrongOwner g x))) refl a.course

pub ldt_shows : (v : PortValue) (address entries : ℕ) (w : PortValue) (g x : ℕ) → IsMachine v.post.machine → is_telling v ≡ true → NoneDies (told_word v) →
    SetsLdt v address entries w (Err (Refused (WrongOwner g x))) → is_dying x ≡ false
ldt_shows v address entries w g x machine telling n a = ldt_by v g x machine telling n address entries w (Err (Refused (WrongOwner g x))) refl a

-- ---- one descriptor
under_unowned : (v w : PortValue) (f owner : ℕ) (want : PageType) (r : Result (Unit {0}) Stop) (g x : ℕ) → r ≡ Err (Refused (WrongOwner g x)) → is_telling v ≡ true → TookAs v f owner want w r → ⊥
under_unowned v _ f owner _ _ g x is telling (update.TookAs.as_desc w r took) = took_unowned v w f owner r g x is telling took
under_unowned v _ f owner _ _ g x is telling (update.TookAs.as_memory w r took) = memory_unowned v w f owner r g x is telling took

stored_unowned : (v w : PortValue) (f owner i new : ℕ) (want : PageType) (r : Result (Unit {0}) Stop) (g x : ℕ) → r ≡ Err (Refused (WrongOwner g x)) → is_telling v ≡ true →
    StoredUnder v f owner i new want w r → ⊥
stored_unowned v w f owner i new want _ g x is telling (update.StoredUnder.untaken y found e saw wanted took) =
    under_unowned y w f owner want (Err e) g x is (came_telling v y (moves_came v y (Kind f) _ _ None found saw) ∙ telling) took
stored_unowned v w f owner i new want _ g x is telling (update.StoredUnder.stored y z u found old saw wanted took stores gave) = absurd cc

module _ (v : PortValue) (address word g x : ℕ) (telling : is_telling v ≡ true) (n : NoneDies (told_word v)) where
  descriptor_by : (want : PageType) (w : PortValue) (r : Result (Unit {0}) Stop) → r ≡ Err (Refused (WrongOwner g x)) → UpdatesDescriptor v address word want w r → is_dying x ≡ false
  descriptor_by _ _ _ is (update.UpdatesDescriptor.barred y bars) = absurd (descriptor_numbers address y g x (same_refusal y (WrongOwner g x) is) bars)
  descriptor_by _ _ _ is (update.UpdatesDescriptor.unreferred w e free ref) =
      ref_shows v w (frame_at address) (own_domain v) g x (subst (λ y. GotRef v w (frame_at address) (own_domain v) (Err y)) (stop_of e (WrongOwner g x) is) ref) telling n
  descriptor_by _ _ _ is (update.UpdatesDescriptor.unfixed u w free ref none gave) = absurd cc
  descriptor_by _ _ _ is (update.UpdatesDescriptor.referred u w new want r free ref fixed under) =
      absurd (stored_unowned u w (frame_at address) (own_domain v) (index_at address) new want r g x is
      (came_telling v u (ref_came v u (frame_at address) (own_domain v) (Ok (frame_at address)) ref) ∙ telling) under)

pub descriptor_shows : (v w : PortValue) (address word g x : ℕ) → IsMachine v.post.machine → is_telling v ≡ true → NoneDies (told_word v) →
    DescriptorUpdated v w address word (Err (Refused (WrongOwner g x))) → is_dying x ≡ false
descriptor_shows v w address word g x machine telling n a = descriptor_by v address word g x telling n a.want w (Err (Refused (WrongOwner g x))) refl a.course

-- ---- a page of the own LDT
entry_off : (table i w new found : ℕ) (vs : List Visit) → EntryBy table i w new found vs → AreOffRefs vs
entry_off table i w new found vs a = off_then (Only (saw_entry table i w)) _ (off_only _ tt) (off_where (is_bit 0 w && not (new == w)) (Only (sets_bits table i w new found)) (off_only _ tt)) vs a

module _ (n : Machine) (va : ℕ) (write : Bool) (answer : Result Walked Stop) where
  path_off : (level table : ℕ) (barrier : Option ℕ) (vs : List Visit) → PathBy n va write answer level table barrier vs → AreOffRefs vs
  path_off _ _ _ _ (walks.PathBy.ends level table barrier vs w found entry ends) = entry_off table (index_of va level) w _ found vs entry
  path_off _ _ _ _ (walks.PathBy.goes level table barrier vs first rest w deep mapped entry more list) =
      subst AreOffRefs (sym list) (off_both first rest (entry_off table (index_of va level) w _ w first entry) (path_off (level - 1) (frame_of w) (barrier_with barrier w) rest more))

  walk_off : (s : ℕ) (user : Bool) (vs : List Visit) → WalkBy n s user va write answer vs → AreOffRefs vs
  walk_off s user vs (walks.WalkBy.barred y bars is none) = subst AreOffRefs (sym none) tt
  walk_off s user vs (walks.WalkBy.baseless free is only) = off_only _ tt vs only
  walk_off s user vs (walks.WalkBy.walks base free some down) = off_then (Only (base_visit s user write base)) _ (off_only _ tt) (path_off 4 (base - 1) None) vs down

walk_settling : (v w : PortValue) (user : Bool) (va : ℕ) (write : Bool) (entry : ℕ) → Walks v w user va write (Ok entry) → Settling v w
walk_settling v w user va write entry (barrier, does, hand) = off_does v w _ (walk_off v.post.machine va write _ v.post.vcpu user) does

-- a walk is never refused for an owner
walk_numbers : (va : ℕ) (r : Refusal) (g x : ℕ) → r ≡ WrongOwner g x → walk_refusal va ≡ Some r → ⊥
walk_numbers va r g x is = by (is_canonical va) (is_slot L4 (index_of va 4))
  where
    by : (b c : Bool) → (if b then (if c then Some (refusals.Slot (index_of va 4)) else None) else Some refusals.NonCanonical) ≡ Some r → ⊥
    by true true e = absurd cc
    by true false e = absurd cc
    by false c e = absurd cc

walked_refusal : (r s : Refusal) → ◌≡◌ {A = Result Walked Stop} (Err (Refused r)) (Err (Refused s)) → r ≡ s
walked_refusal r s is = cc

module _ (n : Machine) (va : ℕ) (write : Bool) (g x : ℕ) where
  path_unowned : (level table : ℕ) (barrier : Option ℕ) (vs : List Visit) → PathBy n va write (Err (Refused (WrongOwner g x))) level table barrier vs → ⊥
  path_unowned _ _ _ _ (walks.PathBy.ends level table barrier vs w found entry ends) = ends
  path_unowned _ _ _ _ (walks.PathBy.goes level table barrier vs first rest w deep mapped entry more list) = path_unowned (level - 1) (frame_of w) (barrier_with barrier w) rest more

  walk_unowned : (s : ℕ) (user : Bool) (vs : List Visit) → WalkBy n s user va write (Err (Refused (WrongOwner g x))) vs → ⊥
  walk_unowned s user vs (walks.WalkBy.barred y bars is none) = walk_numbers va y g x (sym (walked_refusal (WrongOwner g x) y is)) bars
  walk_unowned s user vs (walks.WalkBy.baseless free is only) = absurd cc
  walk_unowned s user vs (walks.WalkBy.walks base free some down) = path_unowned 4 (base - 1) None down.after down.next

unwalked : (v w : PortValue) (user : Bool) (va : ℕ) (write : Bool) (g x : ℕ) (e : Stop) → e ≡ Refused (WrongOwner g x) → Walks v w user va write (Err e) → ⊥
unfolding Does
unwalked v w user va write g x e is a =
    let b = subst (λ y. Walks v w user va write (Err y)) is a in
    walk_unowned v.post.machine va write g x v.post.vcpu user _ b.0.2

seen_settling : (v w : PortValue) (page base : ℕ) (b : LdtBase) (word : ℕ) → FoundPage v w page base b word → Settling v w
seen_settling v w page base b word a =
    settling_then v a.seen w (look_settling v a.seen (Vcpu v.post.vcpu 7) _ None base a.based.looks) (look_settling a.seen w (Vcpu v.post.vcpu (22 + page)) _ None word a.looks)

module _ (v : PortValue) (page g x : ℕ) (machine : IsMachine v.post.machine) (telling : is_telling v ≡ true) (n : NoneDies (told_word v)) where
  touched_by : (base : ℕ) (frame : Option ℕ) (w : PortValue) (r : Result (Unit {0}) Stop) → r ≡ Err (Refused (WrongOwner g x)) → TouchesLdt v page base frame w r → is_dying x ≡ false
  touched_by base _ _ _ is (touching.TouchesLdt.beyond w b found far) = absurd cc
  touched_by base _ _ _ is (touching.TouchesLdt.held w b word found some) = absurd cc
  touched_by base _ _ _ is (touching.TouchesLdt.unwalked u w b e found walked) = absurd (unwalked u w false (touch_address page b) false g x e (stop_of e (WrongOwner g x) is) walked)
  touched_by base _ _ _ is (touching.TouchesLdt.untaken u y w b entry e found walked taken) =
      page_behind v y w (frame_of entry) (own_domain v) g x
      (settling_then v u y (seen_settling v u page base b 0 found) (walk_settling u y false (touch_address page b) false entry walked)) machine telling n
      (subst (λ z. GotDesc y (frame_of entry) (own_domain v) w (Err z)) (stop_of e (WrongOwner g x) is) taken)
  touched_by base _ _ _ is (touching.TouchesLdt.touched u y z w b entry found walked taken names) = absurd cc

pub touched_shows : (v w : PortValue) (page g x : ℕ) → IsMachine v.post.machine → is_telling v ≡ true → NoneDies (told_word v) →
    LdtTouched v w page (Err (Refused (WrongOwner g x))) → is_dying x ≡ false
touched_shows v w page g x machine telling n a = touched_by v page g x machine telling n a.base a.frame w (Err (Refused (WrongOwner g x))) refl a.course
