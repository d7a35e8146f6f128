-- What the gate says within an element: no, until the element is paused for it; but a release may be paused that goes with an element that is done.
use Rattle.std.proofs.Common.{◌≡◌, ◌⊎◌, ℕ, zero, suc, ◌+◌, ◌-◌, ◌==◌, ◌%◌, ◌||◌, ◌^◌, nat_lt, if◌then◌else◌, Bool, true, false, List, [], ◌∷◌, ◌++◌, slice_get, Option, Some, None, Result, Ok, Err, IfErr, refl, ap, ◌∙◌, inl, inr, arith, subst, append_assoc}
use Rattle.std.proofs.lemmas.Bool.{eqb-true}
use Rattle.xp_words.specs.KindWords.{kind_fields}
use Rattle.xp_words.specs.declared.entry.Demand.{Demand}
use Rattle.xp_words.specs.declared.kind.PageType.{PageType}
use Rattle.xp_words.specs.declared.kind.PageType.TheVariants.{L4}
use Rattle.xp_words.specs.declared.ops.ExtOp.{ExtOp}
use Rattle.xp_words.specs.declared.ops.Pair.{Pair}
use Rattle.xp_words.specs.declared.reply.Pause.TheVariants.{Due}
use Rattle.xp_words.specs.declared.reply.Refusal.TheVariants as refusals
use Rattle.xp_words.specs.declared.reply.Stop.{Stop}
use Rattle.xp_words.specs.declared.reply.Stop.TheVariants.{Paused, Refused}
use Rattle.xp_board.specs.Told.{PortValue}
use Rattle.xp_preempt.specs.Gates.{ends_yes, yeses}
use Rattle.xp_preempt.proofs.Consulting.{ends_then, yeses_then}
use Rattle.foreign_map.specs.declared.owners.Owners.{Owners}
use Rattle.level_release.specs.Course.{WasReleased}
use Rattle.level_release.proofs.Noes.{settled_no}
use Rattle.mmu_update.specs.Addresses as entering
use Rattle.mmu_update.specs.Addresses.{EnteredAt, UpdatedAt}
use Rattle.mmu_update.specs.Exchanges as exchanging
use Rattle.mmu_update.specs.Exchanges.{EntryUpdate, Exchanged, ReleasedDemand, TookDemand}
use Rattle.mmu_update.specs.Course as updating
use Rattle.mmu_update.specs.Course.{Updated, Wrote, entry_update}
use Rattle.mmu_update.specs.Elements.{element_of}
use Rattle.mmu_update.specs.declared.element.Element as updates
use Rattle.mmu_update.specs.declared.element.Element.TheVariants.{SetM2p, Write, Misaligned, Unknown}
use Rattle.mmuext_ops.specs.Course as course
use Rattle.mmuext_ops.specs.Course.{FlushedLocal, Performed, Pinned, Unpinned}
use Rattle.mmuext_ops.specs.Elements.{every_vcpu, ext_element}
use Rattle.mmuext_ops.specs.declared.element.Element.{Element}
use Rattle.mmuext_ops.specs.declared.element.Element.TheVariants as elements
use Rattle.mmuext_ops.specs.Bases.{AcquiresTop, Base, Kernel, ReleasesOld, SetsBase, User, user_frame}
use Rattle.mmuext_ops.specs.Bases as basing
use Rattle.tlb_walks.specs.Addresses.{index_of}
use Rattle.vcpu_turn.specs.Asking.{HearsNo, NoUntilDue}
use Rattle.vcpu_turn.specs.Ext.{PausesOldBase, PausesUnpin, ExtFits, FitsExt, awaited_for}
use Rattle.vcpu_turn.specs.Lists.{Tried, tried, is_due_answer}
use Rattle.vcpu_turn.specs.Mappings as mapping
use Rattle.vcpu_turn.specs.Mappings.{MapsWord, PausesOldEntry, UpdatesWord}
use Rattle.vcpu_turn.specs.Pairs.{ExchangesEntry, PausesRelease, FitsPair, PairFits}
use Rattle.vcpu_turn.specs.Settling as settling
use Rattle.vcpu_turn.specs.Settling.{Settles, SettlesFirst}
use Rattle.vcpu_turn.proofs.Noes.{acquired_noes, noes_all, noes_no, noes_none, noes_same, noes_then, released_noes, settled_noes}

-- ---- an exchange
took_noes : (owner level : ℕ) (v : PortValue) (d : Demand) (w : PortValue) (answers : List Bool) (answer : Result (Unit {0}) Stop) → TookDemand owner level v d w answers answer → NoUntilDue answers (is_due_answer answer)
took_noes owner level v _ _ _ _ exchanging.TookDemand.nothing = noes_none false
took_noes owner level v _ _ _ _ (exchanging.TookDemand.referred w g got) = noes_none false
took_noes owner level v _ _ _ _ (exchanging.TookDemand.unreferred w g stop got) = noes_none _
took_noes owner level v _ _ _ _ (exchanging.TookDemand.paged w g one got) = noes_none false
took_noes owner level v _ _ _ _ (exchanging.TookDemand.unpaged w g stop one got) = noes_none _
took_noes owner level v _ _ _ _ (exchanging.TookDemand.acquired w g answers above acquired) = acquired_noes v w g owner (level - 1) answers (Ok g) acquired
took_noes owner level v _ _ _ _ (exchanging.TookDemand.refused w g answers stop above acquired) = acquired_noes v w g owner (level - 1) answers (Err stop) acquired

-- the release of what the old word asked is paused: the gate said yes to the last of its asks alone
record Pausing (kind : PageType) (w : PortValue) (more : List Bool) : Type 0 where
  unlocked : PortValue
  frame : ℕ
  released : WasReleased unlocked frame kind w more (Err (Paused Due))
  early : yeses more ≡ 1
  last : ends_yes more ≡ true

by_last : (v w : PortValue) (g : ℕ) (t : PageType) (more : List Bool) → WasReleased v g t w more (Err (Paused Due)) → (yeses more ≡ 0) ⊎ Pausing t w more
unfolding yeses
by_last v w g t [] was = inl refl
by_last v w g t (true ∷ rest) was =
    let before = (released_noes v w g t (true ∷ rest) (Err (Paused Due)) was).early in
    inr (record { unlocked = v; frame = g; released = was; early = (let one : yeses rest + 1 ≡ 1 = omega (arith, before) in one); last = refl })
by_last v w g t (false ∷ rest) was = inl (released_noes v w g t (false ∷ rest) (Err (Paused Due)) was).early

was_released : (v w : PortValue) (g : ℕ) (t : PageType) (more : List Bool) (answer : Result (Unit {0}) Stop) → WasReleased v g t w more answer → IfErr answer (λ stop. stop ≡ Paused Due) → (yeses more ≡ 0) ⊎ Pausing t w more
was_released v w g t more (Ok done) was due = inl (noes_no more (released_noes v w g t more (Ok done) was))
was_released v w g t more (Err stop) was due = by_last v w g t more (subst (λ (e : Stop). WasReleased v g t w more (Err e)) due was)

released_yes : (v : PortValue) (d : Demand) (w : PortValue) (more : List Bool) → ReleasedDemand v d w more → (yeses more ≡ 0) ⊎ ((t : PageType) × Pausing t w more)
unfolding yeses
released_yes v _ _ _ exchanging.ReleasedDemand.nothing = inl refl
released_yes v _ _ _ exchanging.ReleasedDemand.bad = inl refl
released_yes v _ _ _ (exchanging.ReleasedDemand.referred w g gave) = inl refl
released_yes v _ _ _ (exchanging.ReleasedDemand.released w g t answers answer was due) = elim (was_released v w g t answers answer was due) [
  | inl none ↦ inl none
  | inr pausing ↦ inr (t, pausing)
]

-- done, with a release that is paused behind what was asked first
record PausesBehind (kind : PageType) (w : PortValue) (answers : List Bool) (answer : Result (Unit {0}) Stop) : Type 0 where
  done : answer ≡ Ok tt
  first : List Bool
  more : List Bool
  pausing : Pausing kind w more
  asked : answers ≡ more ++ first
  unsaid : yeses first ≡ 0

exchanged_hears : (v : PortValue) (x : EntryUpdate) (o : Owners) (w : PortValue) (answers : List Bool) (answer : Result (Unit {0}) Stop) → Exchanged v x o w answers answer → NoUntilDue answers (is_due_answer answer) ⊎ ((t : PageType) × PausesBehind t w answers answer)
exchanged_hears v x o _ _ _ (exchanging.Exchanged.bad u w seen saw is left) = inl (noes_none _)
exchanged_hears v x o _ _ _ (exchanging.Exchanged.same u y w seen old saw is put left) = inl (noes_none _)
exchanged_hears v x o _ _ _ (exchanging.Exchanged.unput u y w seen stop saw is put left) = inl (noes_none _)
exchanged_hears v x o _ _ _ (exchanging.Exchanged.untaken u y w seen answers stop saw off took left) = inl (took_noes _ x.level u _ y answers (Err stop) took)
exchanged_hears v x o _ _ _ (exchanging.Exchanged.lost u y z a w seen answers stop saw off took put gave left) = inl (noes_all answers _ (noes_no answers (took_noes _ x.level u _ y answers (Ok tt) took)))
exchanged_hears v x o _ _ _ (exchanging.Exchanged.done u y z a w seen old answers more saw off took put left gone) =
    let unsaid = noes_no answers (took_noes _ x.level u _ y answers (Ok tt) took) in
    elim (released_yes a _ w more gone) [
      | inl none ↦ inl (noes_then answers more false unsaid (noes_all more false none))
      | inr pausing ↦ inr (pausing.0, record { done = refl; first = answers; more = more; pausing = pausing.1; asked = refl; unsaid = unsaid })
    ]

-- ---- an element of `mmu_update`
-- what was settled first
pub settles_hears : {below : Option ℕ} → (v w : PortValue) (answers : List Bool) (answer : Result (Unit {0}) Stop) → Settles below v w answers answer → NoUntilDue answers (is_due_answer answer)
settles_hears v w answers answer s = settled_noes v w answers answer s.course

-- behind it
settled_then : (v u : PortValue) (early answers : List Bool) (answer : Result (Unit {0}) Stop) → Settles None v u early (Ok tt) → NoUntilDue answers (is_due_answer answer) → NoUntilDue (answers ++ early) (is_due_answer answer)
settled_then v u early answers answer settles noes = noes_then early answers (is_due_answer answer) (settled_no v u early (Ok tt) refl settles.course) noes

module _ (pairs : List Pair) (o : Owners) (k : ℕ) (v z : PortValue) (early : List Bool) (settles : Settles None v z early (Ok tt)) (p : Pair) (at : slice_get pairs k ≡ Some p) where
  paused_release : (t : PageType) (w : PortValue) (answers : List Bool) (answer : Result (Unit {0}) Stop) → ExchangesEntry pairs (tried k v w (answers ++ early) answer) → PausesBehind t w answers answer →
      PausesRelease pairs (tried k v w (answers ++ early) answer)
  paused_release t w answers answer exchange pause =
      let none = settled_no v z early (Ok tt) refl settles.course in
      let unsaid = pause.unsaid in
      let one = pause.pausing.early in
      let inner = ap yeses pause.asked ∙ yeses_then pause.first pause.more in
      let all = yeses_then early answers in
      record {
        exchange = exchange;
        done = pause.done;
        unlocked = pause.pausing.unlocked;
        frame = pause.pausing.frame;
        kind = t;
        first = pause.first ++ early;
        more = pause.more;
        released = pause.pausing.released;
        asked = ap (λ (xs : List Bool). xs ++ early) pause.asked ∙ append_assoc pause.more pause.first early;
        early = omega (arith, none, unsaid, one, inner, all);
        last = ends_then early answers (ap ends_yes pause.asked ∙ ends_then pause.first pause.more pause.pausing.last);
      }

  wrote_hears : (f i word : ℕ) (keep : Bool) → element_of p ≡ Write f i word keep → (w : PortValue) (answers : List Bool) (answer : Result (Unit {0}) Stop) → Wrote z o f i word keep w answers answer →
      HearsNo (tried k v w (answers ++ early) answer) ⊎ PausesRelease pairs (tried k v w (answers ++ early) answer)
  wrote_hears f i word keep writes _ _ _ (updating.Wrote.unreferred w stop got) = inl (settled_then v z early [] (Err stop) settles (noes_none _))
  wrote_hears f i word keep writes _ _ _ (updating.Wrote.unlocked u y w stop got locked gave) = inl (settled_then v z early [] (Err stop) settles (noes_none _))
  wrote_hears f i word keep writes _ _ _ (updating.Wrote.slot u y w level found got locked is left) = inl (settled_then v z early [] (Err (Refused (refusals.Slot i))) settles (noes_none false))
  wrote_hears f i word keep writes _ _ _ (updating.Wrote.exchanged u y w level found answers answer got locked off exchanged) = elim (exchanged_hears y (entry_update f level i word keep) o w answers answer exchanged) [
    | inl noes ↦ inl (settled_then v z early answers answer settles noes)
    | inr pause ↦ inr (paused_release pause.0 w answers answer exchange pause.1)
  ]
    where
      exchange : ExchangesEntry pairs (tried k v w (answers ++ early) answer)
      exchange =
          record {
            owners = o;
            pair = p;
            at = at;
            frame = f;
            index = i;
            word = word;
            keep = keep;
            writes = writes;
            settled = z;
            referred = u;
            held = y;
            level = level;
            found = found;
            early = early;
            answers = answers;
            settles = settles;
            got = got;
            locked = locked;
            open_slot = off;
            exchanged = exchanged;
            asked = refl;
          }
  wrote_hears f i word keep writes _ _ _ (updating.Wrote.untaken u y w found stop got other took) = inl (settled_then v z early [] (Err stop) settles (noes_none _))
  wrote_hears f i word keep writes _ _ _ (updating.Wrote.stored u y a b w found old got other took stores gave) = inl (settled_then v z early [] (Ok tt) settles (noes_none _))

  updated_hears : (e : updates.Element) → element_of p ≡ e → (w : PortValue) (answers : List Bool) (answer : Result (Unit {0}) Stop) → Updated z o e w answers answer →
      HearsNo (tried k v w (answers ++ early) answer) ⊎ PausesRelease pairs (tried k v w (answers ++ early) answer)
  updated_hears (SetM2p f gpfn) is w answers answer u = inl (settled_then v z early answers answer settles (noes_same answers [] _ u.0 (noes_none _)))
  updated_hears (Write f i word keep) is w answers answer u = wrote_hears f i word keep is w answers answer u
  updated_hears Misaligned is w answers answer u = inl (settled_then v z early answers answer settles (noes_same answers [] _ u.1 (noes_none _)))
  updated_hears Unknown is w answers answer u = inl (settled_then v z early answers answer settles (noes_same answers [] _ u.1 (noes_none _)))

pair_hears : (pairs : List Pair) (o : Owners) (k : ℕ) (x : Option Pair) → slice_get pairs k ≡ x → (v w : PortValue) (asked : List Bool) (answer : Result (Unit {0}) Stop) → FitsPair o x v w asked answer →
    HearsNo (tried k v w asked answer) ⊎ PausesRelease pairs (tried k v w asked answer)
pair_hears pairs o k None at v w asked answer fit = absurd fit
pair_hears pairs o k (Some p) at v _ _ _ (settling.SettlesFirst.unsettled w answers stop s) = inl (settles_hears v w answers (Err stop) s)
pair_hears pairs o k (Some p) at v _ _ _ (settling.SettlesFirst.performed z w early answers answer s u) = updated_hears pairs o k v z early s p at (element_of p) refl w answers answer u.course

pub pairs_hear : (pairs : List Pair) (o : Owners) (k : ℕ) (v w : PortValue) (asked : List Bool) (answer : Result (Unit {0}) Stop) → PairFits o pairs k v w asked answer →
    HearsNo (tried k v w asked answer) ⊎ PausesRelease pairs (tried k v w asked answer)
pairs_hear pairs o k v w asked answer fit = pair_hears pairs o k (slice_get pairs k) refl v w asked answer fit

-- ---- an update by address
-- the entry is set, and the release of what the old word asked is paused
record PausesEntry (o : Owners) (word : ℕ) (w : PortValue) (answers : List Bool) (answer : Result (Unit {0}) Stop) : Type 0 where
  table : ℕ
  index : ℕ
  held : PortValue
  exchanged : Exchanged held (entry_update table 1 index word false) o w answers answer
  kind : PageType
  pause : PausesBehind kind w answers answer

entered_hears : (v : PortValue) (o : Owners) (table i word : ℕ) (w : PortValue) (answers : List Bool) (answer : Result (Unit {0}) Stop) → EnteredAt v o table i word w answers answer →
    NoUntilDue answers (is_due_answer answer) ⊎ PausesEntry o word w answers answer
entered_hears v o table i word _ _ _ (entering.EnteredAt.unreferred w stop got) = inl (noes_none _)
entered_hears v o table i word _ _ _ (entering.EnteredAt.unlocked u y w stop got locked gave) = inl (noes_none _)
entered_hears v o table i word _ _ _ (entering.EnteredAt.other u y w found got locked gave) = inl (noes_none _)
entered_hears v o table i word _ _ _ (entering.EnteredAt.level u y w level found got locked off left) = inl (noes_none _)
entered_hears v o table i word _ _ _ (entering.EnteredAt.exchanged u y w found answers answer got locked exchanged) = elim (exchanged_hears y (entry_update table 1 i word false) o w answers answer exchanged) [
  | inl noes ↦ inl noes
  | inr pause ↦ inr (record { table = table; index = i; held = y; exchanged = exchanged; kind = pause.0; pause = pause.1 })
]

led_hears : (v : PortValue) (o : Owners) (va word table : ℕ) (w : PortValue) (answers : List Bool) (answer : Result (Unit {0}) Stop) → UpdatedAt v o va word table w answers answer →
    NoUntilDue answers (is_due_answer answer) ⊎ PausesEntry o word w answers answer
led_hears v o va word table _ _ _ (entering.UpdatedAt.unled w stop above leads) = inl (noes_none _)
led_hears v o va word table _ _ _ (entering.UpdatedAt.led u w answers answer leads entered) = entered_hears u o table (index_of va 1) word w answers answer entered

word_hears : (d foreign va word flags : ℕ) (v w : PortValue) (answers : List Bool) (answer : Result (Unit {0}) Stop) → UpdatesWord d foreign va word flags v w answers answer →
    NoUntilDue answers (is_due_answer answer) ⊎ ((o : Owners) × PausesEntry o word w answers answer)
word_hears d foreign va word flags v _ _ _ (mapping.UpdatesWord.far above) = inl (noes_none _)
word_hears d foreign va word flags v _ _ _ (mapping.UpdatesWord.unowned w x few finds) = inl (noes_none _)
word_hears d foreign va word flags v _ _ _ (mapping.UpdatesWord.flagged w o few finds bad) = inl (noes_none _)
word_hears d foreign va word flags v _ _ _ (mapping.UpdatesWord.owned u w o answers answer few finds good at) = elim (led_hears u o va word at.table w answers answer at.course) [
  | inl noes ↦ inl noes
  | inr pause ↦ inr (o, pause)
]

-- behind what was settled first
record PausesWord (word : ℕ) (v w : PortValue) (asked : List Bool) (answer : Result (Unit {0}) Stop) : Type 0 where
  owners : Owners
  settled : PortValue
  before : List Bool
  answers : List Bool
  settles : Settles None v settled before (Ok tt)
  entry : PausesEntry owners word w answers answer
  all : asked ≡ answers ++ before

first_hears : (d foreign va word flags : ℕ) (v w : PortValue) (asked : List Bool) (answer : Result (Unit {0}) Stop) → SettlesFirst (UpdatesWord d foreign va word flags) v w asked answer →
    NoUntilDue asked (is_due_answer answer) ⊎ PausesWord word v w asked answer
first_hears d foreign va word flags v _ _ _ (settling.SettlesFirst.unsettled w answers stop s) = inl (settles_hears v w answers (Err stop) s)
first_hears d foreign va word flags v _ _ _ (settling.SettlesFirst.performed z w early answers answer s u) = elim (word_hears d foreign va word flags z w answers answer u) [
  | inl noes ↦ inl (settled_then v z early answers answer s noes)
  | inr pause ↦ inr (record { owners = pause.0; settled = z; before = early; answers = answers; settles = s; entry = pause.1; all = refl })
]

old_entry : (word : ℕ) (v u w : PortValue) (asked : List Bool) (answer : Result (Unit {0}) Stop) → PausesWord word v u asked (Ok tt) → PausesOldEntry (tried 0 v w asked answer)
old_entry word v u w asked answer set =
    let pause = set.entry.pause in
    let none = settled_no v set.settled set.before (Ok tt) refl set.settles.course in
    let unsaid = pause.unsaid in
    let one = pause.pausing.early in
    let inner = ap yeses pause.asked ∙ yeses_then pause.first pause.more in
    let all = ap yeses set.all ∙ yeses_then set.before set.answers in
    record {
      owners = set.owners;
      table = set.entry.table;
      index = set.entry.index;
      word = word;
      settled = set.settled;
      held = set.entry.held;
      updated = u;
      before = set.before;
      answers = set.answers;
      settles = set.settles;
      exchanged = set.entry.exchanged;
      all = set.all;
      unlocked = pause.pausing.unlocked;
      frame = pause.pausing.frame;
      kind = set.entry.kind;
      first = pause.first ++ set.before;
      more = pause.more;
      released = pause.pausing.released;
      asked = set.all ∙ ap (λ (xs : List Bool). xs ++ set.before) pause.asked ∙ append_assoc pause.more pause.first set.before;
      early = omega (arith, none, unsaid, one, inner, all);
      last = ap ends_yes set.all ∙ ends_then set.before set.answers (ap ends_yes pause.asked ∙ ends_then pause.first pause.more pause.pausing.last);
    }

pub maps_hear : (d foreign va word flags : ℕ) (awaited : Option ℕ) (v : PortValue) (from to : ℕ) (w : PortValue) (asked : List Bool) (answer : Result (Unit {0}) Stop) →
    MapsWord d foreign va word flags awaited v from to w asked answer → HearsNo (tried 0 v w asked answer) ⊎ PausesOldEntry (tried 0 v w asked answer)
maps_hear d foreign va word flags awaited v _ _ _ _ _ (mapping.MapsWord.unset w asked e first) = elim (first_hears d foreign va word flags v w asked (Err e) first) [
  | inl noes ↦ inl noes
  | inr pause ↦ absurd (let done = pause.entry.pause.done in cc)
]
maps_hear d foreign va word flags awaited v _ _ _ _ _ (mapping.MapsWord.set u w asked answer first drops) = elim (first_hears d foreign va word flags v u asked (Ok tt) first) [
  | inl noes ↦ inl (noes_all asked _ (noes_no asked noes))
  | inr pause ↦ inr (old_entry word v u w asked answer pause)
]
maps_hear d foreign va word flags awaited v _ _ _ _ _ (mapping.MapsWord.waited w answer waits) = inl (noes_none _)

-- ---- an element of `mmuext_op`
pinned_noes : (v w : PortValue) (d f level : ℕ) (answers : List Bool) (answer : Result (Unit {0}) Stop) → Pinned v w d f level answers answer → NoUntilDue answers (is_due_answer answer)
pinned_noes v w d f level _ _ (course.Pinned.unreferred stop got) = noes_none _
pinned_noes v w d f level _ _ (course.Pinned.pinned_before a b x got saw gave is) = noes_none false
pinned_noes v w d f level _ _ (course.Pinned.refused a b c x answers stop got saw gave off acquired) = acquired_noes c w f d level answers (Err stop) acquired
pinned_noes v w d f level _ _ (course.Pinned.acquired a b c e x answers answer got saw gave off acquired ends) =
    noes_all answers _ (noes_no answers (acquired_noes c e f d level answers (Ok f) acquired))

unpinned_hears : (v w : PortValue) (d f : ℕ) (answers : List Bool) (answer : Result (Unit {0}) Stop) → Unpinned v w d f answers answer → NoUntilDue answers (is_due_answer answer) ⊎ ((answer ≡ Ok tt) × (t : PageType) × Pausing t w answers)
unpinned_hears v w d f _ _ (course.Unpinned.unreferred stop got) = inl (noes_none _)
unpinned_hears v w d f _ _ (course.Unpinned.unpinned_before a b x got saw off gave) = inl (noes_none _)
unpinned_hears v w d f _ _ (course.Unpinned.raced a b c x found got saw is takes other off gave) = inl (noes_none _)
unpinned_hears v w d f _ _ (course.Unpinned.lost a b c x found got saw is takes other still gave) = inl (noes_none _)
unpinned_hears v w d f _ _ (course.Unpinned.released a b c e x answers answer got saw is takes gave was due) = elim (was_released e w f (kind_fields x).kind answers answer was due) [
  | inl none ↦ inl (noes_all answers false none)
  | inr pausing ↦ inr (refl, (kind_fields x).kind, pausing)
]

-- a new base: the old one is released last
top_noes : (v w : PortValue) (new : Option ℕ) (answers : List Bool) → AcquiresTop v w new answers → yeses answers ≡ 0
unfolding yeses
top_noes v w None answers top = ap yeses top.1
top_noes v w (Some f) answers top = noes_no answers (acquired_noes v w f _ 4 answers (Ok f) top)

old_hears : (v w : PortValue) (old : ℕ) (more : List Bool) → ReleasesOld v w old more → (yeses more ≡ 0) ⊎ Pausing L4 w more
unfolding yeses
old_hears v w zero more none = inl (ap yeses none.1)
old_hears v w (suc g) more released = was_released v w g L4 more released.0 released.1 released.2

base_hears : (v w : PortValue) (base : Base) (new : Option ℕ) (answers : List Bool) (answer : Result (Unit {0}) Stop) → SetsBase v w base new answers answer → NoUntilDue answers (is_due_answer answer) ⊎ PausesBehind L4 w answers answer
base_hears v w base _ _ _ (basing.SetsBase.spent new saw) = inl (noes_none _)
base_hears v w base _ _ _ (basing.SetsBase.unacquired a f clock answers stop saw off acquired) = inl (acquired_noes a w f _ 4 answers (Err stop) acquired)
base_hears v w base _ _ _ (basing.SetsBase.installed a b clock new answers more saw off top set) =
    let unsaid = top_noes a b new answers top in
    elim (old_hears set.flushed w set.old more set.releases) [
      | inl none ↦ inl (noes_then answers more false unsaid (noes_all more false none))
      | inr pausing ↦ inr (record { done = refl; first = answers; more = more; pausing = pausing; asked = refl; unsaid = unsaid })
    ]

flushed_noes : (v w : PortValue) (answers : List Bool) (answer : Result (Unit {0}) Stop) → FlushedLocal v w answers answer → NoUntilDue answers (is_due_answer answer)
flushed_noes v w _ _ (course.FlushedLocal.flushed does uncached) = noes_none false
flushed_noes v w _ _ (course.FlushedLocal.spent does same) = noes_none false

-- which command it is
module _ (op : ExtOp) where
  -- a command of pages, or none
  abbrev whole_by : (clear copy : Bool) → Element
  whole_by clear copy =
      if clear then elements.ClearPage op.first
      else if copy then elements.CopyPage op.first op.second
      else elements.Unknown

  abbrev own_by : (base flush page some all table user clear copy : Bool) → Element
  own_by base flush page some all table user clear copy =
      if base then elements.NewBase op.first
      else if flush then elements.FlushLocal
      else if page then elements.Invalidate op.first
      else if some then elements.FlushVcpus (op.second % 2 ^ 16)
      else if all then elements.FlushVcpus every_vcpu
      else if table then elements.SetLdt op.first op.second
      else if user then elements.NewUserBase op.first
      else whole_by clear copy

  not_unpin : (f : ℕ) (base flush page some all table user clear copy : Bool) → own_by base flush page some all table user clear copy ≡ elements.Unpin f → ⊥
  not_unpin f true flush page some all table user clear copy e = cc
  not_unpin f false true page some all table user clear copy e = cc
  not_unpin f false false true some all table user clear copy e = cc
  not_unpin f false false false true all table user clear copy e = cc
  not_unpin f false false false false true table user clear copy e = cc
  not_unpin f false false false false false true user clear copy e = cc
  not_unpin f false false false false false false true clear copy e = cc
  not_unpin f false false false false false false false true copy e = cc
  not_unpin f false false false false false false false false true e = cc
  not_unpin f false false false false false false false false false e = cc

  new_base : (f : ℕ) (base flush page some all table user clear copy : Bool) → own_by base flush page some all table user clear copy ≡ elements.NewBase f → base ≡ true
  new_base f true flush page some all table user clear copy e = refl
  new_base f false true page some all table user clear copy e = absurd (cc)
  new_base f false false true some all table user clear copy e = absurd (cc)
  new_base f false false false true all table user clear copy e = absurd (cc)
  new_base f false false false false true table user clear copy e = absurd (cc)
  new_base f false false false false false true user clear copy e = absurd (cc)
  new_base f false false false false false false true clear copy e = absurd (cc)
  new_base f false false false false false false false true copy e = absurd (cc)
  new_base f false false false false false false false false true e = absurd (cc)
  new_base f false false false false false false false false false e = absurd (cc)

  new_user_base : (f : ℕ) (base flush page some all table user clear copy : Bool) → own_by base flush page some all table user clear copy ≡ elements.NewUserBase f → user ≡ true
  new_user_base f true flush page some all table user clear copy e = absurd (cc)
  new_user_base f false true page some all table user clear copy e = absurd (cc)
  new_user_base f false false true some all table user clear copy e = absurd (cc)
  new_user_base f false false false true all table user clear copy e = absurd (cc)
  new_user_base f false false false false true table user clear copy e = absurd (cc)
  new_user_base f false false false false false true user clear copy e = absurd (cc)
  new_user_base f false false false false false false true clear copy e = refl
  new_user_base f false false false false false false false true copy e = absurd (cc)
  new_user_base f false false false false false false false false true e = absurd (cc)
  new_user_base f false false false false false false false false false e = absurd (cc)

  abbrev is_own : Element
  is_own =
      own_by (op.command == 5) (op.command == 6) (op.command == 7) ((op.command == 8) || (op.command == 9)) ((op.command == 10) || (op.command == 11)) (op.command == 13) (op.command == 15) (op.command == 16)
      (op.command == 17)

  -- an element that is neither a pin nor an unpin
  is_unpin : (f : ℕ) → ext_element op ≡ elements.Unpin f → op.command ≡ 4
  is_unpin f is = by_test (nat_lt op.command 4) (op.command == 4) refl is
    where
      by_test : (pins unpins : Bool) → (op.command == 4) ≡ unpins → (if pins then elements.Pin op.first (op.command + 1) else if unpins then elements.Unpin op.first else is_own) ≡ elements.Unpin f → op.command ≡ 4
      by_test true unpins same e = absurd (cc)
      by_test false true same e = eqb-true op.command 4 same
      by_test false false same e = absurd (not_unpin f (op.command == 5) (op.command == 6) (op.command == 7) ((op.command == 8) || (op.command == 9)) ((op.command == 10) || (op.command == 11)) (op.command == 13) (op.command == 15) (op.command == 16) (op.command == 17) e)

  sets_base : (f : ℕ) → ext_element op ≡ elements.NewBase f → op.command ≡ 5
  sets_base f is = by_test (nat_lt op.command 4) (op.command == 4) is
    where
      by_test : (pins unpins : Bool) → (if pins then elements.Pin op.first (op.command + 1) else if unpins then elements.Unpin op.first else is_own) ≡ elements.NewBase f → op.command ≡ 5
      by_test true unpins e = absurd (cc)
      by_test false true e = absurd (cc)
      by_test false false e = eqb-true op.command 5 (new_base f (op.command == 5) (op.command == 6) (op.command == 7) ((op.command == 8) || (op.command == 9)) ((op.command == 10) || (op.command == 11)) (op.command == 13) (op.command == 15) (op.command == 16) (op.command == 17) e)

  sets_user_base : (f : ℕ) → ext_element op ≡ elements.NewUserBase f → op.command ≡ 15
  sets_user_base f is = by_test (nat_lt op.command 4) (op.command == 4) is
    where
      by_test : (pins unpins : Bool) → (if pins then elements.Pin op.first (op.command + 1) else if unpins then elements.Unpin op.first else is_own) ≡ elements.NewUserBase f → op.command ≡ 15
      by_test true unpins e = absurd (cc)
      by_test false true e = absurd (cc)
      by_test false false e = eqb-true op.command 15 (new_user_base f (op.command == 5) (op.command == 6) (op.command == 7) ((op.command == 8) || (op.command == 9)) ((op.command == 10) || (op.command == 11)) (op.command == 13) (op.command == 15) (op.command == 16) (op.command == 17) e)

abbrev ElementHears : List ExtOp → Tried → Type 0
ElementHears list t = HearsNo t ⊎ (PausesUnpin list t ⊎ PausesOldBase list t)

module _ (list : List ExtOp) (d k : ℕ) (v z : PortValue) (early : List Bool) (settles : Settles None v z early (Ok tt)) (op : ExtOp) (at : slice_get list k ≡ Some op) where
  paused_unpin : (f : ℕ) → ext_element op ≡ elements.Unpin f → (w : PortValue) (answers : List Bool) (answer : Result (Unit {0}) Stop) (t : PageType) → answer ≡ Ok tt → Pausing t w answers → PausesUnpin list (tried k v w (answers ++ early) answer)
  paused_unpin f is w answers answer t done pausing =
      let none = settled_no v z early (Ok tt) refl settles.course in
      let one = pausing.early in
      let all = yeses_then early answers in
      record {
        op = op;
        at = at;
        unpins = is_unpin op f is;
        done = done;
        unpinned = pausing.unlocked;
        frame = pausing.frame;
        kind = t;
        first = early;
        more = answers;
        released = pausing.released;
        asked = refl;
        early = omega (arith, none, one, all);
        last = ends_then early answers pausing.last;
      }

  paused_base : (op.command ≡ 5) ⊎ (op.command ≡ 15) → (w : PortValue) (answers : List Bool) (answer : Result (Unit {0}) Stop) → PausesBehind L4 w answers answer → PausesOldBase list (tried k v w (answers ++ early) answer)
  paused_base sets w answers answer pause =
      let none = settled_no v z early (Ok tt) refl settles.course in
      let unsaid = pause.unsaid in
      let one = pause.pausing.early in
      let inner = ap yeses pause.asked ∙ yeses_then pause.first pause.more in
      let all = yeses_then early answers in
      record {
        op = op;
        at = at;
        sets = sets;
        done = pause.done;
        flushed = pause.pausing.unlocked;
        frame = pause.pausing.frame;
        first = pause.first ++ early;
        more = pause.more;
        released = pause.pausing.released;
        asked = ap (λ (xs : List Bool). xs ++ early) pause.asked ∙ append_assoc pause.more pause.first early;
        early = omega (arith, none, unsaid, one, inner, all);
        last = ends_then early answers (ap ends_yes pause.asked ∙ ends_then pause.first pause.more pause.pausing.last);
      }

  set_hears : (op.command ≡ 5) ⊎ (op.command ≡ 15) → (base : Base) (new : Option ℕ) (w : PortValue) (answers : List Bool) (answer : Result (Unit {0}) Stop) → SetsBase z w base new answers answer →
      ElementHears list (tried k v w (answers ++ early) answer)
  set_hears sets base new w answers answer p = elim (base_hears z w base new answers answer p) [
    | inl noes ↦ inl (settled_then v z early answers answer settles noes)
    | inr pause ↦ inr (inr (paused_base sets w answers answer pause))
  ]

  performed_hears : (e : Element) → ext_element op ≡ e → (awaited : Option ℕ) (w : PortValue) (answers : List Bool) (answer : Result (Unit {0}) Stop) → Performed z w d e awaited answers answer →
      ElementHears list (tried k v w (answers ++ early) answer)
  performed_hears (elements.Pin f level) is awaited w answers answer p = inl (settled_then v z early answers answer settles (pinned_noes z w d f level answers answer p))
  performed_hears (elements.Unpin f) is awaited w answers answer p = elim (unpinned_hears z w d f answers answer p) [
    | inl noes ↦ inl (settled_then v z early answers answer settles noes)
    | inr pause ↦ inr (inl (paused_unpin f is w answers answer pause.1 pause.0 pause.2))
  ]
  performed_hears (elements.NewBase f) is awaited w answers answer p = set_hears (inl (sets_base op f is)) Kernel (Some f) w answers answer p
  performed_hears (elements.NewUserBase f) is awaited w answers answer p = set_hears (inr (sets_user_base op f is)) User (user_frame f) w answers answer p
  performed_hears elements.FlushLocal is awaited w answers answer p = inl (settled_then v z early answers answer settles (flushed_noes z w answers answer p))
  performed_hears (elements.Invalidate va) is awaited w answers answer p = inl (settled_then v z early answers answer settles (noes_same answers [] _ p.no_ask (noes_none _)))
  performed_hears (elements.FlushVcpus mask) is awaited w answers answer p = inl (settled_then v z early answers answer settles (noes_same answers [] _ p.no_ask (noes_none _)))
  performed_hears (elements.SetLdt address entries) is awaited w answers answer p = inl (settled_then v z early answers answer settles (noes_same answers [] _ p.0 (noes_none _)))
  performed_hears (elements.ClearPage f) is awaited w answers answer p = inl (settled_then v z early answers answer settles (noes_same answers [] _ p.0 (noes_none _)))
  performed_hears (elements.CopyPage to from) is awaited w answers answer p = inl (settled_then v z early answers answer settles (noes_same answers [] _ p.0 (noes_none _)))
  performed_hears elements.Unknown is awaited w answers answer p = inl (settled_then v z early answers answer settles (noes_same answers [] _ p.1 (noes_none _)))

ext_hears : (list : List ExtOp) (d k : ℕ) (awaited : Option ℕ) (x : Option ExtOp) → slice_get list k ≡ x → (v w : PortValue) (asked : List Bool) (answer : Result (Unit {0}) Stop) → FitsExt d awaited x v w asked answer →
    ElementHears list (tried k v w asked answer)
ext_hears list d k awaited None at v w asked answer fit = absurd fit
ext_hears list d k awaited (Some op) at v _ _ _ (settling.SettlesFirst.unsettled w answers stop s) = inl (settles_hears v w answers (Err stop) s)
ext_hears list d k awaited (Some op) at v _ _ _ (settling.SettlesFirst.performed z w early answers answer s p) =
    performed_hears list d k v z early s op at (ext_element op) refl awaited w answers answer p.course

pub elements_hear : (list : List ExtOp) (d from : ℕ) (awaited : Option ℕ) (k : ℕ) (v w : PortValue) (asked : List Bool) (answer : Result (Unit {0}) Stop) → ExtFits d list from awaited k v w asked answer →
    HearsNo (tried k v w asked answer) ⊎ (PausesUnpin list (tried k v w asked answer) ⊎ PausesOldBase list (tried k v w asked answer))
elements_hear list d from awaited k v w asked answer fit = ext_hears list d k (awaited_for from awaited k) (slice_get list k) refl v w asked answer fit
