-- A write into ordinary memory on a board that tells all words: by the calls of its course.
use Rattle.std.proofs.Common.{◌≡◌, ℕ, Bool, true, List, Option, None, Result, Ok, Err, IsTrue, refl, sym, ap, ◌∙◌, subst}
use Rattle.xp_words.specs.KindWords.{kind_fields}
use Rattle.xp_words.specs.declared.kind.PageType.TheVariants.{Writable}
use Rattle.xp_words.specs.declared.place.Place.TheVariants.{Cell, Kind, Refs}
use Rattle.xp_words.specs.declared.reply.Pause.TheVariants.{Busy, Flush}
use Rattle.xp_words.specs.declared.reply.Refusal.{Refusal}
use Rattle.xp_words.specs.declared.reply.Refusal.TheVariants as refusals
use Rattle.xp_words.specs.declared.reply.Stop.{Stop}
use Rattle.xp_words.specs.declared.reply.Stop.TheVariants.{Refused, Paused}
use Rattle.xp_board.specs.declared.step.Act.TheVariants.{Store}
use Rattle.xp_board.specs.declared.step.StepKind.TheVariants as kinds
use Rattle.xp_board.specs.Readings.{domain_of}
use Rattle.xp_board.specs.Told.{Post, PortValue, is_telling, told_word}
use Rattle.step_maker.specs.Moves.{Came, Moves}
use Rattle.step_maker.specs.Plain.{Leaves, Words, change}
use Rattle.step_maker.proofs.Coming.{came_post, came_trans}
use Rattle.step_maker.proofs.Telling.{came_telling, leaves, moves_telling}
use Rattle.step_maker.specs.Twins.{Alike, AnswersAs}
use Rattle.step_maker.proofs.Alikes.{alike_store}
use Rattle.step_maker.proofs.Visiting.{does_came}
use Rattle.frame_words.specs.Plain.{got, refer}
use Rattle.frame_types.specs.Plain.{TakesMemory, taken}
use Rattle.frame_types.specs.declared.taking.Taken.TheVariants.{Counted}
use Rattle.frame_types.proofs.Alike.{dropped_alike}
use Rattle.m2p_map.proofs.Mapping.{same_words}
use Rattle.table_entries.specs.Acquiring.{GaveType, GotRef}
use Rattle.entry_locks.specs.Locks.{is_lockable, is_worked_on}
use Rattle.entry_locks.specs.declared.locking.Locked.TheVariants.{Table, Other}
use Rattle.foreign_map.specs.declared.owners.Owners.{Owners}
use Rattle.writable_pages.specs.Pages.{TookPage}
use Rattle.writable_pages.proofs.TakenWords.{page_came, page_twin}
use Rattle.mmu_update.specs.Course as courses
use Rattle.mmu_update.specs.Course.{TriedLock, Updated, Wrote}
use Rattle.mmu_update.specs.Plain.{IsNoTable, StoresPlainly, TwinUpdate, TwinWrite, WritesPlainly, write_word}
use Rattle.mmu_update.specs.declared.element.Element.{Element}
use Rattle.mmu_update.specs.declared.element.Element.TheVariants.{Misaligned, SetM2p, Unknown, Write}

-- ---- not stored
not_stored : (u w : PortValue) (f i word : ℕ) (e : Stop) → TakesMemory u w f (Err e) → StoresPlainly w (told_word u) f i word (Err e)
not_stored u w f i word (Refused (refusals.Clock x)) a = a
not_stored u w f i word (Paused (Flush v stamp x)) a = a
not_stored u w f i word (Refused _) a = a
not_stored u w f i word (Paused _) a = a

-- ---- behind a reference that was taken
module _ (v u : PortValue) (f owner : ℕ) (took : GotRef v u f owner (Ok f)) (telling : is_telling v ≡ true) where
  came : Came v u
  came = does_came v u _ took.found

  on : is_telling u ≡ true
  on = came_telling v u came ∙ telling

  got_words : told_word u ≡ got f (told_word v)
  got_words = same_words (told_word u) (got f (told_word v)) (took.plain telling).1

  same_kind : told_word u (Kind f) ≡ told_word v (Kind f)
  same_kind = ap (λ (m : Words). m (Kind f)) got_words

  behind : (w : PortValue) (i word : ℕ) (answer : Result (Unit {0}) Stop) → StoresPlainly w (told_word u) f i word answer → TwinWrite v w owner f i word answer
  behind w i word answer stores telling mine none =
      subst (λ (o : Option Refusal). WritesPlainly v w f i word answer o) (sym (took.plain telling).0) (subst (λ (m : Words). StoresPlainly w m f i word answer) got_words stores)

  -- the lock found no table
  module _ (none : IsNoTable (kind_fields (told_word v (Kind f)))) where
    none_there : IsNoTable (kind_fields (told_word u (Kind f)))
    none_there = subst (λ x. IsNoTable (kind_fields x)) (sym same_kind) none

    no_table : (y : PortValue) (level found : ℕ) → TriedLock u y f owner (Ok (Table level found)) → ⊥
    no_table y level found tried =
        let a = tried.plain on in
        let free = none_there.unlockable in
        let locks : IsTrue (is_lockable (kind_fields (told_word u (Kind f)))) = subst (λ x. IsTrue (is_lockable (kind_fields x))) a.0 a.1 in
        cc

    no_stop : (y : PortValue) (e : Stop) → TriedLock u y f owner (Err e) → ⊥
    no_stop y (Paused (Busy g x)) tried =
        let a = tried.plain on in
        let free = none_there.unworked in
        let works : IsTrue (is_worked_on (kind_fields (told_word u (Kind f)))) = subst (λ k. IsTrue (is_worked_on (kind_fields k))) a.1 a.2 in
        cc
    no_stop y (Paused _) tried = tried.plain on
    no_stop y (Refused _) tried = tried.plain on

  module _ (y : PortValue) (found : ℕ) (tried : TriedLock u y f owner (Ok (Other found))) (mine : owner ≡ domain_of v.post.machine v.post.vcpu) where
    tried_came : Came u y
    tried_came = does_came u y _ tried.found

    tried_words : told_word y ≡ told_word u
    tried_words = same_words (told_word y) (told_word u) (tried.plain on).3

    there : is_telling y ≡ true
    there = came_telling u y tried_came ∙ on

    home : owner ≡ domain_of y.post.machine y.post.vcpu
    home = mine ∙ ap (λ (p : Post). domain_of p.machine p.vcpu) (sym (came_post v y (came_trans v u y came tried_came)))

    untaken : (w : PortValue) (i word : ℕ) (e : Stop) → TookPage y f owner w (Err e) → StoresPlainly w (told_word u) f i word (Err e)
    untaken w i word e page =
        subst (λ (m : Words). StoresPlainly w m f i word (Err e)) tried_words (not_stored y w f i word e (page_twin y w f owner (Err e) home page there))

    module _ (a b w : PortValue) (i word old : ℕ) (page : TookPage y f owner a (Ok tt)) (made : Moves a b (Cell f i) (Store word) kinds.Cell None old) (gave : GaveType b w f Writable) where
      at_a : is_telling a ≡ true
      at_a = came_telling y a (page_came y a f owner page) ∙ there

      at_b : is_telling b ≡ true
      at_b = moves_telling a b (Cell f i) (Store word) kinds.Cell None old made ∙ at_a

      stored : StoresPlainly w (told_word u) f i word (Ok tt)
      stored =
          let took = page_twin y a f owner (Ok tt) home page there in
          let words_b : told_word b ≡ change (Store word) (Cell f i) (told_word a) = same_words (told_word b) _ (leaves a b (Cell f i) (Store word) kinds.Cell None old made at_a) in
          let words_w = same_words (told_word w) _ (gave.plain at_b) in
          let alike : Alike (told_word b) (change (Store word) (Cell f i) (taken f Writable Counted (told_word y))) =
          subst (λ (m : Words). Alike m (change (Store word) (Cell f i) (taken f Writable Counted (told_word y)))) (sym words_b) (alike_store word (Cell f i) (told_word a) (taken f Writable Counted (told_word y)) took.1) in
          let stood = gave.stands at_b in
          subst (λ (m : Words). StoresPlainly w m f i word (Ok tt)) tried_words (
            took.0,
            subst (λ (m : Words). Alike m (write_word f i word (told_word y))) (sym words_w) (dropped_alike f Writable (told_word b) _ stood.0 stood.1 alike),
          )

-- ---- no reference is to be had
unreferred : (v w : PortValue) (f i word owner : ℕ) (e : Stop) → AnswersAs {A = ℕ} v w (refer v.post.machine owner f (told_word v (Refs f))) (got f (told_word v)) (Err e) → WritesPlainly v w f i word (Err e) (refer v.post.machine owner f (told_word v (Refs f)))
unreferred v w f i word owner (Refused r) a = subst (λ (o : Option Refusal). WritesPlainly v w f i word (Err (Refused r)) o) (sym a.0) (refl, a.1)
unreferred v w f i word owner (Paused x) a = absurd a

-- ---- the whole
pub wrote_plain : (v w : PortValue) (o : Owners) (f i word : ℕ) (keep : Bool) (answers : List Bool) (answer : Result (Unit {0}) Stop) → Wrote v o f i word keep w answers answer → TwinWrite v w o.tables f i word answer
wrote_plain v _ o f i word keep _ _ (courses.unreferred w stop took) telling mine none = unreferred v w f i word o.tables stop (took.plain telling)
wrote_plain v _ o f i word keep _ _ (courses.unlocked u y w stop took tried back) telling mine none = absurd (no_stop v u f o.tables took telling none y stop tried)
wrote_plain v _ o f i word keep _ _ (courses.slot u y w level found took tried is left) telling mine none = absurd (no_table v u f o.tables took telling none y level found tried)
wrote_plain v _ o f i word keep _ _ (courses.exchanged u y w level found answers answer took tried off a) telling mine none = absurd (no_table v u f o.tables took telling none y level found tried)
wrote_plain v _ o f i word keep _ _ (courses.untaken u y w found stop took tried page) telling mine none =
    behind v u f o.tables took telling w i word (Err stop) (untaken v u f o.tables took telling y found tried mine w i word stop page) telling mine none
wrote_plain v _ o f i word keep _ _ (courses.stored u y a b w found old took tried page made gave) telling mine none =
    behind v u f o.tables took telling w i word (Ok tt) (stored v u f o.tables took telling y found tried mine a b w i word old page made gave) telling mine none

-- ---- all elements
same_leaves : (v w : PortValue) → w ≡ v → Leaves w (told_word v)
same_leaves v w is q = ap (λ (u : PortValue). told_word u q) is

pub updated_plain : (v w : PortValue) (o : Owners) (e : Element) (answers : List Bool) (answer : Result (Unit {0}) Stop) → Updated v o e w answers answer → TwinUpdate v w o e answer
updated_plain v w o (SetM2p f gpfn) answers answer a = a.2
updated_plain v w o (Write f i word keep) answers answer a = wrote_plain v w o f i word keep answers answer a
updated_plain v w o Misaligned answers answer a = λ telling. (a.2, same_leaves v w a.0)
updated_plain v w o Unknown answers answer a = λ telling. (a.2, same_leaves v w a.0)
