-- What the work of a turn on an operation of one task brings, whatever it is; of a list, by the laws of its items. A new task has its case in `brings` and in `releases_none`.
use Rattle.std.proofs.Common.{◌≡◌, ℕ, Bool, true, List, [], ◌∷◌, length, Option, Some, None, Result, Ok, Err, refl, sym, subst, inl, inr, arith, ◌⊎◌, ◌+◌, ◌≤◌, ap, ◌∙◌, All, slice_get}
use Rattle.std.proofs.lemmas.List.Elements.{All-cons, All-head, All-nil, All-get_or}
use Rattle.std.proofs.lemmas.Option.{get_or_from_slice_get, slice_get_within}
use Rattle.xp_words.specs.declared.ops.ExtOp.{ExtOp}
use Rattle.xp_words.specs.declared.ops.Pair.{Pair}
use Rattle.xp_words.specs.declared.reply.Refusal.{Refusal}
use Rattle.xp_words.specs.declared.reply.Stop.{Stop}
use Rattle.xp_words.specs.declared.reply.Stop.TheVariants.{Refused}
use Rattle.xp_board.specs.Told.{PortValue}
use Rattle.step_maker.specs.Moves.{Came}
use Rattle.step_maker.proofs.Coming.{came_self, came_trans}
use Rattle.foreign_map.specs.declared.owners.Owners.{Owners}
use Rattle.mmu_update.specs.declared.element.Element.TheVariants as updates
use Rattle.mmu_update.specs.Elements.{element_of}
use Rattle.mmu_update.specs.declared.element.Element.{Element}
use Rattle.tlb_walks.specs.Asking.{of_read, of_write}
use Rattle.vcpu_turn.specs.Cpus.{Task, OfPairs, OfExt, OfMem, OfMapping, OfDescriptors, OfRead, OfWrite, begins_at}
use Rattle.vcpu_turn.specs.Lists.{Fitting, WorksOn, WorksThrough, tried_through, asks_between, is_due_answer, IsRefusedWhole, Tried, tried, tried_in}
use Rattle.vcpu_turn.specs.Extents as lists
use Rattle.vcpu_turn.specs.Extents.{ExtentFits, WorksExtents, begins_in, tried_extents}
use Rattle.vcpu_turn.specs.Mappings.{MapsWord}
use Rattle.vcpu_turn.specs.Pairs as owning
use Rattle.vcpu_turn.specs.Ext.{ExtFits, awaited_for, PausesOldBase, PausesUnpin, IsNoRelease}
use Rattle.vcpu_turn.specs.Pairs.{PairFits, WorksOwned, tried_owned, ExchangesEntry, IsNoWrite}
use Rattle.vcpu_turn.specs.Turning.{asks_for}
use Rattle.vcpu_turn.specs.Working.{Works, valued, tried_of, ReleasesNothing, ElementFits, PassesYes}
use Rattle.vcpu_turn.specs.Asking.{HearsNoWithin, NoUntilDue, asks_within, HearsNo, OfTask}
use Rattle.vcpu_turn.specs.Accesses.{done_by}
use Rattle.vcpu_turn.proofs.Noes.{noes_none, noes_same}
use Rattle.vcpu_turn.proofs.Operations.{due_valued}
use Rattle.vcpu_turn.proofs.Mapping.{maps_due, maps_most}
use Rattle.vcpu_turn.proofs.Trying.{within_more, works_asks, works_hears, tried_each}
use Rattle.vcpu_turn.proofs.Hearing.{elements_hear, maps_hear, pairs_hear}
use Rattle.vcpu_turn.proofs.Hindering.{AloneStays, NeitherLostNorBusy, NobodyWaitedFor, IsSpared, Spared, call_spared, descriptors_came, descriptors_spared, ext_spared, extent_came, extent_spared, exts_came, list_came, list_spared, maps_came, maps_spared, owners_came, pair_spared, pairs_came, reads_came, refused_whole, same_came, spared_back, spared_on, valued_spared, writes_came}

-- ---- what a list brings with its items
-- F holds of each that was tried, and G where one is done past a yes of the gate.
pub record ItemLaws (fits : Fitting) (F G : Tried → Type 0) : Type 0 where
  pub came : (k : ℕ) (v w : PortValue) (asked : List Bool) (answer : Result (Unit {0}) Stop) → fits k v w asked answer → Came v w
  pub spared : AloneStays → NeitherLostNorBusy → NobodyWaitedFor → (k : ℕ) (v w : PortValue) (asked : List Bool) (answer : Result (Unit {0}) Stop) → IsSpared v → fits k v w asked answer → Spared v answer
  pub is : (k : ℕ) (v w : PortValue) (asked : List Bool) (answer : Result (Unit {0}) Stop) → fits k v w asked answer → F (tried k v w asked answer)
  pub hears : (k : ℕ) (v w : PortValue) (asked : List Bool) (answer : Result (Unit {0}) Stop) → fits k v w asked answer → HearsNo (tried k v w asked answer) ⊎ G (tried k v w asked answer)

pairs_laws : (d foreign : ℕ) (list : List Pair) (from : ℕ) (awaited : Option ℕ) (o : Owners) → ItemLaws (PairFits o list) (ElementFits d (OfPairs foreign list) from awaited) (PassesYes (OfPairs foreign list))
pairs_laws d foreign list from awaited o =
    record {
      came = pairs_came o list;
      spared = λ stays neither nobody k x y asked a s fit. pair_spared stays neither nobody o (slice_get list k) x y asked a s fit;
      is = λ k x y asked a fit. (o, fit);
      hears = pairs_hear list o;
    }

ext_laws : (d : ℕ) (list : List ExtOp) (from : ℕ) (awaited : Option ℕ) → ItemLaws (ExtFits d list from awaited) (ElementFits d (OfExt list) from awaited) (PassesYes (OfExt list))
ext_laws d list from awaited =
    record {
      came = exts_came d list from awaited;
      spared = λ stays neither nobody k x y asked a s fit. ext_spared stays neither nobody d (awaited_for from awaited k) (slice_get list k) x y asked a s fit;
      is = λ k x y asked a fit. fit;
      hears = elements_hear list d from awaited;
    }

extents_laws : (d command order : ℕ) (items : List ℕ) (from within : ℕ) (awaited : Option ℕ) →
    ItemLaws (ExtentFits d command order items (begins_in command from) within) (ElementFits d (OfMem command order items) from awaited) (PassesYes (OfMem command order items))
extents_laws d command order items from within awaited =
    record {
      came = extent_came d command order items (begins_in command from) within;
      spared = λ stays neither nobody k x y asked a s fit. extent_spared stays neither nobody d command order items (begins_in command from) within k x y asked a s fit;
      is = λ k x y asked a fit. (within, fit);
      hears = λ k x y asked a fit. inl (noes_same asked [] (is_due_answer a) fit.no_ask (noes_none (is_due_answer a)));
    }

-- ---- and so the work of a turn, which asks the gate so often between the items
pub record Brings (F G : Tried → Type 0) (v : PortValue) (from to : ℕ) (w : PortValue) (answers : List Bool) (answer : Result ℕ Stop) (between : ℕ) (items : List Tried) : Type 0 where
  pub came : Came v w
  pub spared : AloneStays → NeitherLostNorBusy → NobodyWaitedFor → IsSpared v → Spared v answer
  pub asks : length answers ≡ between + asks_within items
  -- no more are done than it asked between them, and one; and no more than it asked where it is paused for the gate
  pub most : to ≤ from + between + 1
  pub due : is_due_answer answer ≡ true → to ≤ from + between
  pub hears : HearsNoWithin items → NoUntilDue answers (is_due_answer answer)
  pub fits : All F items
  pub passes : All (λ (t : Tried). HearsNo t ⊎ G t) items

-- a turn goes on no earlier than behind the elements that are done
pub begins_later : (o : Option Task) (from : ℕ) → from ≤ begins_at o from
begins_later None from = omega arith
begins_later (Some (OfPairs foreign list)) from = omega arith
begins_later (Some (OfExt list)) from = omega arith
begins_later (Some (OfMem command order items)) from = omega arith
begins_later (Some (OfMapping foreign va word flags)) from = omega arith
begins_later (Some (OfDescriptors tables)) from = omega arith
begins_later (Some (OfRead user va)) from = omega arith
begins_later (Some (OfWrite user va val)) from = omega arith

most_between : {A : Type 0} (from to : ℕ) (answer : Result A Stop) → to ≤ from + asks_between from to answer + 1
most_between from to (Ok a) = omega arith
most_between from to (Err e) = omega arith

due_between : {A : Type 0} (from to : ℕ) (answer : Result A Stop) → is_due_answer answer ≡ true → to ≤ from + asks_between from to answer
due_between from to (Ok a) due = absurd (cc)
due_between from to (Err e) due = omega arith

-- a value is no ask
between_valued : (from to : ℕ) (ended : Result (Unit {0}) Stop) (answer : Result ℕ Stop) → answer ≡ valued ended → asks_between from to answer ≡ asks_between from to ended
between_valued from to (Ok done) answer is = ap (asks_between from to) is
between_valued from to (Err e) answer is = ap (asks_between from to) is

refused_between : {A : Type 0} (from to : ℕ) (answer : Result A Stop) → to ≡ 0 → asks_between from to answer ≡ 0
refused_between from to (Ok done) none = omega (arith, none)
refused_between from to (Err e) none = omega (arith, none)

empty_between : (from : ℕ) (ended : Result (Unit {0}) Stop) → asks_between from from ended ≡ 0
empty_between from (Ok done) = omega arith
empty_between from (Err e) = omega arith

none_between : (from to : ℕ) → to ≤ from → asks_between {A = Unit {0}} from to (Ok tt) ≡ 0
none_between from to less = omega (arith, less)

one_between : {A : Type 0} (from to : ℕ) (answer : Result A Stop) → to ≡ done_by answer → asks_between from to answer ≡ 0
one_between from to (Ok a) is = omega (arith, is)
one_between from to (Err e) is = omega (arith, is)

valued_asks : (from to within : ℕ) (answers : List Bool) (ended : Result (Unit {0}) Stop) (answer : Result ℕ Stop) → answer ≡ valued ended → length answers ≡ asks_between from to ended + within → length answers ≡ asks_between from to answer + within
valued_asks from to within answers ended answer is number = let same = between_valued from to ended answer is in omega (arith, number, same)

pub valued_hears : (answers : List Bool) (ended : Result (Unit {0}) Stop) (answer : Result ℕ Stop) → answer ≡ valued ended → NoUntilDue answers (is_due_answer ended) → NoUntilDue answers (is_due_answer answer)
valued_hears answers ended answer is noes = subst (λ (b : Bool). NoUntilDue answers b) (sym (due_valued ended answer is)) noes

module _ {F G : Tried → Type 0} {v : PortValue} {from to : ℕ} {w : PortValue} {answers : List Bool} {answer : Result ℕ Stop} where
  -- with no list, and with no ask
  unlisted : Came v w → (AloneStays → NeitherLostNorBusy → NobodyWaitedFor → IsSpared v → Spared v answer) → answers ≡ [] → asks_between from to answer ≡ 0 → Brings F G v from to w answers answer (asks_between from to answer) []
  unlisted came spared no_ask between =
      record {
        came = came;
        spared = spared;
        asks = (let none = ap (λ (xs : List Bool). length xs) no_ask in omega (arith, none, between));
        most = most_between from to answer;
        due = due_between from to answer;
        hears = λ none. noes_same answers [] (is_due_answer answer) no_ask (noes_none (is_due_answer answer));
        fits = All-nil F;
        passes = All-nil (λ (t : Tried). HearsNo t ⊎ G t);
      }

  -- behind what was done first
  listed : {fits : Fitting} {count : ℕ} {u : PortValue} {ended : Result (Unit {0}) Stop} → ItemLaws fits F G → Came v u → (on : WorksOn fits count from u to w answers ended) → answer ≡ valued ended → Brings F G v from to w answers answer (asks_between from to answer) (tried_in on)
  listed {fits} {count} {u} {ended} laws came on is =
      record {
        came = came_trans v u w came (list_came fits laws.came count from u to w answers ended on);
        spared = λ stays neither nobody s. valued_spared v ended answer is
            (spared_back stays neither nobody v u ended came
            (list_spared stays neither nobody fits laws.came (laws.spared stays neither nobody) count from u to w answers ended (spared_on stays neither nobody v u came s) on));
        asks = valued_asks from to (asks_within (tried_in on)) answers ended answer is (works_asks on);
        most = most_between from to answer;
        due = due_between from to answer;
        hears = λ hears. valued_hears answers ended answer is (works_hears on hears);
        fits = tried_each F laws.is on;
        passes = tried_each (λ (t : Tried). HearsNo t ⊎ G t) laws.hears on;
      }

  refused : {A : Type 0} {x : Refusal} (ended : Result A Stop) → IsRefusedWhole x v to w answers ended → (Spared v ended → Spared v answer) → (asks_between from to ended ≡ 0 → asks_between from to answer ≡ 0) → Brings F G v from to w answers answer (asks_between from to answer) []
  refused {x = x} ended whole spares counts =
      unlisted (same_came v w whole.no_step) (λ stays neither nobody s. spares (refused_whole v x ended whole.refused)) whole.no_ask (counts (refused_between from to ended whole.none))

  through : {fits : Fitting} {count : ℕ} {ended : Result (Unit {0}) Stop} → ItemLaws fits F G → (works : WorksThrough fits count v from to w answers ended) → answer ≡ valued ended → Brings F G v from to w answers answer (asks_between from to answer) (tried_through works)
  through {ended = ended} laws (inl works) is = refused ended works.1 (valued_spared v ended answer is) (λ none. between_valued from to ended answer is ∙ none)
  through laws (inr works) is = listed laws (came_self v) works.1 is

owned_brings : (d foreign : ℕ) (list : List Pair) (from : ℕ) (awaited : Option ℕ) {v : PortValue} {to : ℕ} {w : PortValue} {answers : List Bool} {ended : Result (Unit {0}) Stop} (answer : Result ℕ Stop) → (works : WorksOwned d foreign list v from to w answers ended) →
    answer ≡ valued ended → Brings (ElementFits d (OfPairs foreign list) from awaited) (PassesYes (OfPairs foreign list)) v from to w answers answer (asks_between from to answer) (tried_owned works)
owned_brings d foreign list from awaited {v} answer (owning.WorksOwned.long to w answers ended above whole) is = refused ended whole (valued_spared v ended answer is) (λ none. between_valued from to ended answer is ∙ none)
owned_brings d foreign list from awaited {v} answer (owning.WorksOwned.none empty) is =
    unlisted (came_self v) (λ stays neither nobody s. valued_spared v (Ok tt) answer is tt) refl (between_valued from from (Ok tt) answer is ∙ empty_between from (Ok tt))
owned_brings d foreign list from awaited {v} answer (owning.WorksOwned.unowned w x some few finds) is =
    unlisted (owners_came v w d foreign (Err x) finds) (λ stays neither nobody s. valued_spared v (Err (Refused x)) answer is tt) refl
    (between_valued from from (Err (Refused x)) answer is ∙ empty_between from (Err (Refused x)))
owned_brings d foreign list from awaited {v} answer (owning.WorksOwned.owned to u w o answers ended some few finds on) is =
    listed (pairs_laws d foreign list from awaited o) (owners_came v u d foreign (Ok o) finds) on is

-- a list of extents begins with the one that its command names
extents_bring : (d command order : ℕ) (items : List ℕ) (from : ℕ) (awaited : Option ℕ) {v : PortValue} {to : ℕ} {w : PortValue} {answers : List Bool} {ended : Result (Unit {0}) Stop} (answer : Result ℕ Stop) →
    (works : WorksExtents d command order items v from to w answers ended) → answer ≡ valued ended →
    Brings (ElementFits d (OfMem command order items) from awaited) (PassesYes (OfMem command order items)) v (begins_in command from) to w answers answer (asks_between (begins_in command from) to answer) (tried_extents works)
extents_bring d command order items from awaited {v} answer (lists.WorksExtents.refused to w answers ended x why whole) is =
    refused ended whole (valued_spared v ended answer is) (λ none. between_valued (begins_in command from) to ended answer is ∙ none)
extents_bring d command order items from awaited {v} answer (lists.WorksExtents.none why empty) is =
    unlisted (came_self v) (λ stays neither nobody s. valued_spared v (Ok tt) answer is tt) refl
    (between_valued (begins_in command from) from (Ok tt) answer is ∙ none_between (begins_in command from) from (begins_later (Some (OfMem command order items)) from))
extents_bring d command order items from awaited {v} answer (lists.WorksExtents.on to within w answers ended why some works) is =
    listed (extents_laws d command order items from within awaited) (came_self v) works is

-- ---- an update by address: one element, behind which nothing is asked
maps_bring : (d foreign va word flags from : ℕ) (awaited : Option ℕ) {v : PortValue} {to : ℕ} {w : PortValue} {answers : List Bool} {ended : Result (Unit {0}) Stop} (answer : Result ℕ Stop) →
    (works : MapsWord d foreign va word flags awaited v from to w answers ended) → answer ≡ valued ended →
    Brings (ElementFits d (OfMapping foreign va word flags) from awaited) (PassesYes (OfMapping foreign va word flags)) v from to w answers answer 0 (tried 0 v w answers ended ∷ [])
maps_bring d foreign va word flags from awaited {v} {to} {w} {answers} {ended} answer works is =
    record {
      came = maps_came d foreign va word flags awaited v from to w answers ended works;
      spared = λ stays neither nobody s. valued_spared v ended answer is (maps_spared stays neither nobody d foreign va word flags awaited v from to w answers ended s works);
      asks = (let all = within_more t [] in omega (arith, all));
      most = (let one = maps_most works in omega (arith, one));
      due = λ due. (let stays = maps_due d foreign va word flags awaited v from to w answers ended works (sym (due_valued ended answer is) ∙ due) in omega (arith, stays));
      hears = λ hears. valued_hears answers ended answer is (All-head HearsNo t [] hears);
      fits = All-cons (ElementFits d (OfMapping foreign va word flags) from awaited) t [] (to, works) (All-nil (ElementFits d (OfMapping foreign va word flags) from awaited));
      passes = All-cons (λ (x : Tried). HearsNo x ⊎ PassesYes (OfMapping foreign va word flags) x) t [] (maps_hear d foreign va word flags awaited v from to w answers ended works) (All-nil (λ (x : Tried). HearsNo x ⊎ PassesYes (OfMapping foreign va word flags) x));
    }
  where
    t : Tried
    t = tried 0 v w answers ended

-- ---- of each operation that is built, and of one that is not
pub brings : (d : ℕ) (o : Option Task) (awaited : Option ℕ) (v : PortValue) (from to : ℕ) (w : PortValue) (answers : List Bool) (answer : Result ℕ Stop) → (works : Works d o awaited v from to w answers answer) →
    Brings (OfTask (λ task. ElementFits d task from awaited) o) (OfTask PassesYes o) v (begins_at o from) to w answers answer (asks_for o from to answer) (tried_of d o awaited v from to w answers answer works)
brings d None awaited v from to w answers answer works = refused answer works (λ spared. spared) (λ none. none)
brings d (Some (OfPairs foreign list)) awaited v from to w answers answer works = owned_brings d foreign list from awaited answer works.works works.answer_is
brings d (Some (OfExt list)) awaited v from to w answers answer works = through (ext_laws d list from awaited) works.works works.answer_is
brings d (Some (OfMem command order items)) awaited v from to w answers answer works = extents_bring d command order items from awaited answer works.works works.answer_is
brings d (Some (OfMapping foreign va word flags)) awaited v from to w answers answer works = maps_bring d foreign va word flags from awaited answer works.works works.answer_is
brings d (Some (OfDescriptors tables)) awaited v from to w answers answer works =
    unlisted (descriptors_came tables v w works.ended works.works.does)
    (λ stays neither nobody s. valued_spared v works.ended answer works.answer_is (descriptors_spared stays neither nobody tables v w works.ended s works.works.does)) works.works.no_ask
    (between_valued from to works.ended answer works.answer_is ∙ one_between from to works.ended works.works.done)
brings d (Some (OfRead user va)) awaited v from to w answers answer works =
    unlisted (reads_came user va v to w answers answer works) (λ stays neither nobody s. call_spared stays neither nobody v w (of_read va) answer refl s works.stops) works.no_ask (one_between from to answer works.done)
brings d (Some (OfWrite user va val)) awaited v from to w answers answer works =
    unlisted (writes_came user va val v to w answers works.ended works.works)
    (λ stays neither nobody s. valued_spared v works.ended answer works.answer_is (call_spared stays neither nobody v w (of_write v user va) works.ended refl s works.works.stops)) works.works.no_ask
    (between_valued from to works.ended answer works.answer_is ∙ one_between from to works.ended works.works.done)

-- ---- operations that release nothing
-- a pair that writes no word
abbrev WritesNone : Element → Type 0
WritesNone (updates.Write f i w keep) = ⊥
WritesNone _ = Unit {0}

no_write : (p : Pair) → IsNoWrite p → WritesNone (element_of p)
no_write p (inl is) = rw is tt
no_write p (inr is) = rw is tt

-- one that stands in a list has what all have
module _ {A : Type 0} (P : A → Type 0) where
  at : (xs : List A) → All P xs → (k : ℕ) (x : A) → slice_get xs k ≡ Some x → P x
  at xs all k x is = subst P (get_or_from_slice_get xs k x x is) (All-get_or P xs k x (slice_get_within xs k x is) all)

module _ (pairs : List Pair) (off : All IsNoWrite pairs) where
  writes_none : (t : Tried) → ExchangesEntry pairs t → ⊥
  writes_none t e = subst WritesNone e.writes (no_write e.pair (at IsNoWrite pairs off t.number e.pair e.at))

no_base : (e : ExtOp) → IsNoRelease e → (e.command ≡ 5) ⊎ (e.command ≡ 15) → ⊥
no_base e off (inl is) = off.1 is
no_base e off (inr is) = off.2 is

unpins_none : (list : List ExtOp) → All IsNoRelease list → (t : Tried) → PausesUnpin list t ⊎ PausesOldBase list t → ⊥
unpins_none list off t (inl pause) = (at IsNoRelease list off t.number pause.op pause.at).0 pause.unpins
unpins_none list off t (inr pause) = no_base pause.op (at IsNoRelease list off t.number pause.op pause.at) pause.sets

pub releases_none : (o : Option Task) → ReleasesNothing o → (t : Tried) → OfTask PassesYes o t → ⊥
releases_none None off t passes = passes
releases_none (Some (OfPairs foreign pairs)) off t passes = writes_none pairs off t passes.exchange
releases_none (Some (OfExt list)) off t passes = unpins_none list off t passes
releases_none (Some (OfMem command order items)) off t passes = passes
releases_none (Some (OfMapping foreign va word flags)) off t passes = off
releases_none (Some (OfDescriptors tables)) off t passes = passes
releases_none (Some (OfRead user va)) off t passes = passes
releases_none (Some (OfWrite user va val)) off t passes = passes
