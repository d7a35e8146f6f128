-- A turn with a list of `mmu_update` whose elements take and give back no table: both old words name no frame behind what was settled first, each
-- element leaves them so, and none asks.
use Rattle.std.proofs.Common.{◌≡◌, ℕ, ◌+◌, ◌-◌, ◌<◌, ◌%◌, ◌/◌, ◌++◌, ◌⊎◌, Bool, true, false, List, [], ◌∷◌, All, Any, slice_get, Option, Some, None, Result, Ok, Err, refl, sym, ap, ◌∙◌, inl, inr, arith, subst}
use Rattle.std.proofs.lemmas.List.Elements.{All-cons, All-nil, All-get_or}
use Rattle.std.proofs.lemmas.Option.{get_or_from_slice_get, slice_get_within}
use Rattle.xp_words.specs.PageTypes.{is_table}
use Rattle.xp_words.specs.declared.entry.Demand.{Demand}
use Rattle.xp_words.specs.declared.kind.PageType.{PageType}
use Rattle.xp_words.specs.declared.kind.PageType.TheVariants.{Writable}
use Rattle.xp_words.specs.declared.ops.Op.{Op}
use Rattle.xp_words.specs.declared.ops.Pair.{Pair}
use Rattle.xp_words.specs.declared.place.Place.{Place}
use Rattle.xp_words.specs.declared.place.Place.TheVariants.{Clock, Pages, Life, Vcpu, Refs, Kind, M2p, Cell, Map, Priv}
use Rattle.xp_words.specs.declared.reply.LogLine.{LogLine}
use Rattle.xp_words.specs.declared.reply.Stop.{Stop}
use Rattle.xp_board.specs.declared.step.Act.TheVariants.{Load}
use Rattle.xp_board.specs.declared.step.StepKind.TheVariants as kinds
use Rattle.xp_board.specs.Acts.{left_by}
use Rattle.xp_board.specs.Told.{Post, PortValue}
use Rattle.xp_board.proofs.HandLists.{EachOf-map}
use Rattle.xp_preempt.specs.Gates.{GivesAnswers, last_ask}
use Rattle.step_maker.proofs.Coming.{came_post}
use Rattle.partial_state.specs.Levels.{level_type}
use Rattle.partial_state.proofs.LevelFacts.{level_type-table}
use Rattle.table_entries.specs.Acquiring as acquiring
use Rattle.table_entries.specs.Acquiring.{GaveRef, GotRef}
use Rattle.level_release.specs.Course as releasing
use Rattle.level_release.specs.Course.{WasReleased}
use Rattle.writable_pages.specs.Pages as pages
use Rattle.writable_pages.specs.Pages.{TookPage}
use Rattle.foreign_map.specs.declared.owners.Owners.{Owners}
use Rattle.foreign_map.proofs.Looking.{IsLook, is_word}
use Rattle.foreign_map.proofs.Naming.{owners_look}
use Rattle.mmu_update.specs.Exchanges as exchanging
use Rattle.mmu_update.specs.Exchanges.{EntryUpdate, Exchanged, LeftLock, PutEntry, ReleasedDemand, TookDemand, new_demand, old_demand, asks_table}
use Rattle.entry_locks.specs.declared.locking.Locked.TheVariants.{Table, Other}
use Rattle.mmu_update.specs.Course as updating
use Rattle.mmu_update.specs.Course.{TriedLock, Updated, Wrote, entry_update}
use Rattle.mmu_update.specs.Elements.{element_of}
use Rattle.mmu_update.specs.declared.element.Element.{Element}
use Rattle.mmu_update.specs.declared.element.Element.TheVariants.{SetM2p, Write, Misaligned, Unknown}
use Rattle.vcpu_turn.proofs.Between.{not_both}
use Rattle.vcpu_turn.specs.Asking.{AsksNothingWithin, asks_within, elements_tried, tried_going}
use Rattle.vcpu_turn.specs.Calls.{WentBy, tried_by}
use Rattle.vcpu_turn.specs.Lists.{Tried, did_in, tried, tried_in, DidItems, WorksOn}
use Rattle.vcpu_turn.specs.Pairs.{ExchangesEntry, IsLast, MovesATable, MovesNoTable, MovesTable, tried_owned, FindsOwners, FitsPair, PairFits, WorksOwned}
use Rattle.vcpu_turn.specs.Working.{tried_of, Works}
use Rattle.vcpu_turn.specs.Cpus.{Job, OfCalls, OfDestroy, OfOne, OfPairs, Processing, Task, job_next, job_of, next_of, task_of}
use Rattle.vcpu_turn.specs.Lists as lists
use Rattle.vcpu_turn.specs.Turning as turning
use Rattle.vcpu_turn.specs.Turning.{Begins, CountsAsks, DoesTurn, GoesBy, GoesNoFurther, IsTurn}
use Rattle.vcpu_turn.specs.Settling as settling
use Rattle.vcpu_turn.specs.Pairs as owning
use Rattle.vcpu_turn.specs.Settling.{Settles}
use Rattle.vcpu_turn.specs.declared.cpu.Progress.{Progress}
use Rattle.vcpu_turn.specs.declared.cpu.TurnEnd.{TurnEnd}
use Rattle.vcpu_turn.proofs.Asking.{turn_asks, turn_within}
use Rattle.vcpu_turn.proofs.CallsBringing.{one_of, one_same}
use Rattle.vcpu_turn.proofs.Clearing.{Apart, Known, drops, elsewhere, gets, keeps_does, keeps_moves, known_left, maps, puts}
use Rattle.vcpu_turn.proofs.Silent.{IsClear, clear_on, settled_clear, settled_silent}
use Rattle.vcpu_turn.proofs.Sparing.{clear_does, counts_type, one, two}
use Rattle.vcpu_turn.proofs.Trying.{any_later, any_now, hears_nothing, within_none}
use Rattle.tlb_walks.proofs.Flushes.{acks_came}

-- ---- a write
took_clear : (v w : PortValue) (f owner : ℕ) (answer : Result (Unit {0}) Stop) → answer ≡ Ok tt → TookPage v f owner w answer → IsClear v → IsClear w
took_clear v _ f owner _ ok (pages.TookPage.counted w took) clear = clear_does v w _ (counts_type v.post f owner (level_type 0)) took.found clear
took_clear v _ f owner _ ok (pages.TookPage.untyped u w stop took gave) clear = absurd (cc)
took_clear v _ f owner _ ok (pages.TookPage.waiting u w own stamp stop took left) clear = absurd (cc)

stored_clear : (v u y a b w : PortValue) (f owner i word found old : ℕ) → GotRef v u f owner (Ok f) → TriedLock u y f owner (Ok (Other found)) → TookPage y f owner a (Ok tt) →
    acquiring.GaveType b w f Writable → IsClear v → (IsClear a → IsClear b) → IsClear w
stored_clear v u y a b w f owner i word found old got other took gave clear stores =
    let now = clear_on v u (keeps_does v u _ (gets v.post.machine f owner (Ok f)) got.found) clear in
    let tried = clear_does u y _ (λ vs saw. one _ refl vs saw.2) other.found now in
    clear_on b w (keeps_does b w _ (drops f Writable) gave.found) (stores (took_clear y a f owner (Ok tt) refl took tried))

-- ---- an exchange that moves no table
on_off : (b : Bool) → (b ≡ true) ⊎ (b ≡ false)
on_off true = inl refl
on_off false = inr refl

locked_clear : (v u y : PortValue) (f owner level found : ℕ) → GotRef v u f owner (Ok f) → TriedLock u y f owner (Ok (Table level found)) → IsClear v → IsClear y
locked_clear v u y f owner level found got locked clear =
    clear_does u y _ (λ vs saw. two _ _ (one _ refl) (one _ refl) vs saw.2) locked.found (clear_on v u (keeps_does v u _ (gets v.post.machine f owner (Ok f)) got.found) clear)

got_clear : (v w : PortValue) (f owner : ℕ) (answer : Result ℕ Stop) → answer ≡ Ok f → pages.GotPage v f owner w answer → IsClear v → IsClear w
got_clear v _ f owner _ ok (pages.GotPage.unreferred w stop got) clear = absurd (cc)
got_clear v _ f owner _ ok (pages.GotPage.refused u w stop got took) clear = absurd (cc)
got_clear v _ f owner _ ok (pages.GotPage.had u w got took) clear = took_clear u w f owner (Ok tt) refl took (clear_on v u (keeps_does v u _ (gets v.post.machine f owner (Ok f)) got.found) clear)

gave_clear : (v w : PortValue) (f : ℕ) → GaveRef v w f → IsClear v → IsClear w
gave_clear v w f gave clear = clear_on v w (keeps_does v w _ (puts f) gave.found) clear

took_silent : (owner level : ℕ) (v : PortValue) (d : Demand) (w : PortValue) (answers : List Bool) (answer : Result (Unit {0}) Stop) → asks_table d ≡ false → TookDemand owner level v d w answers answer → (answers ≡ []) × (answer ≡ Ok tt → IsClear v → IsClear w)
took_silent owner level v _ _ _ _ off exchanging.TookDemand.nothing = (refl, λ ok clear. clear)
took_silent owner level v _ _ _ _ off (exchanging.TookDemand.referred w g got) = (refl, λ ok clear. clear_on v w (keeps_does v w _ (gets v.post.machine g owner (Ok g)) got.found) clear)
took_silent owner level v _ _ _ _ off (exchanging.TookDemand.unreferred w g stop got) = (refl, λ ok. absurd (cc))
took_silent owner level v _ _ _ _ off (exchanging.TookDemand.paged w g one_level got) = (refl, λ ok clear. got_clear v w g owner (Ok g) refl got clear)
took_silent owner level v _ _ _ _ off (exchanging.TookDemand.unpaged w g stop one_level got) = (refl, λ ok. absurd (cc))
took_silent owner level v _ _ _ _ off (exchanging.TookDemand.acquired w g answers above acquired) = absurd (not_both _ (level_type-table (level - 1) (omega (arith, above))) off)
took_silent owner level v _ _ _ _ off (exchanging.TookDemand.refused w g answers stop above acquired) = absurd (not_both _ (level_type-table (level - 1) (omega (arith, above))) off)

was_silent : (v w : PortValue) (f : ℕ) (kind : PageType) (answers : List Bool) (answer : Result (Unit {0}) Stop) → is_table kind ≡ false → WasReleased v f kind w answers answer → (answers ≡ []) × (IsClear v → IsClear w)
was_silent v _ f kind _ _ off (releasing.ReleasedWithin.plain w ordinary gave) = (refl, λ clear. clear_on v w (keeps_does v w _ (drops f kind) gave.found) clear)
was_silent v _ f kind _ _ off (releasing.ReleasedWithin.shared u w table dropped gave) = absurd (not_both _ table off)
was_silent v _ f kind _ _ off (releasing.ReleasedWithin.last u x w word level answers answer table at high dropped looks emptied) = absurd (not_both _ table off)

released_silent : (v : PortValue) (d : Demand) (w : PortValue) (more : List Bool) → asks_table d ≡ false → ReleasedDemand v d w more → (more ≡ []) × (IsClear v → IsClear w)
released_silent v _ _ _ off exchanging.ReleasedDemand.nothing = (refl, λ clear. clear)
released_silent v _ _ _ off exchanging.ReleasedDemand.bad = (refl, λ clear. clear)
released_silent v _ _ _ off (exchanging.ReleasedDemand.referred w g gave) = (refl, gave_clear v w g gave)
released_silent v _ _ _ off (exchanging.ReleasedDemand.released w g t answers answer was due) = was_silent v w g t answers answer off was

put_clear : (v w : PortValue) (f i seen new : ℕ) (keep : Bool) (answer : Result ℕ Stop) → PutEntry v w f i seen new keep answer → IsClear v → IsClear w
put_clear v w f i seen new _ _ (exchanging.PutEntry.stored old put) clear = clear_on v w (keeps_moves v w _ _ _ _ _ refl put) clear
put_clear v w f i seen new _ _ (exchanging.PutEntry.exchanged put) clear = clear_on v w (keeps_moves v w _ _ _ _ _ refl put) clear
put_clear v w f i seen new _ _ (exchanging.PutEntry.lost found other put) clear = clear_on v w (keeps_moves v w _ _ _ _ _ refl put) clear

left_clear : {v : PortValue} {f level : ℕ} {w : PortValue} → (left : LeftLock v f level w) → (IsClear v → IsClear w) ⊎ IsLast left
left_clear {v} {f} (exchanging.LeftLock.shared u w unlocks gave) = inl (λ clear. gave_clear u w f gave (clear_on v u (keeps_moves v u _ _ _ _ _ refl unlocks.unlocks.step) clear))
left_clear (exchanging.LeftLock.last u y w found unlocks parks names) = inr tt

-- what is asked within, and how it leaves the old words
abbrev Silent : PortValue → List Bool → Result (Unit {0}) Stop → Type 0
Silent w answers answer = (answers ≡ []) × (answer ≡ Ok tt → IsClear w)

exchanged_silent : (v : PortValue) (x : EntryUpdate) (o : Owners) (w : PortValue) (answers : List Bool) (answer : Result (Unit {0}) Stop) → (e : Exchanged v x o w answers answer) → IsClear v → Silent w answers answer ⊎ MovesTable e
exchanged_silent v x o _ _ _ (exchanging.Exchanged.bad u w seen saw is left) clear = inl (refl, λ ok. absurd (cc))
exchanged_silent v x o _ _ _ (exchanging.Exchanged.same u y w seen old saw is put left) clear = elim (left_clear left) [
  | inl keeps ↦ inl (refl, λ ok. keeps (put_clear u y _ _ _ _ _ _ put (clear_on v u (keeps_moves v u _ _ _ _ _ refl saw) clear)))
  | inr last ↦ inr last
]
exchanged_silent v x o _ _ _ (exchanging.Exchanged.unput u y w seen stop saw is put left) clear = inl (refl, λ ok. absurd (cc))
exchanged_silent v x o _ _ _ (exchanging.Exchanged.untaken u y w seen answers stop saw apart took left) clear = elim (on_off (asks_table (new_demand x seen))) [
  | inl on ↦ inr on
  | inr off ↦ inl ((took_silent _ x.level u (new_demand x seen) y answers (Err stop) off took).0, λ ok. absurd (cc))
]
exchanged_silent v x o _ _ _ (exchanging.Exchanged.lost u y z a w seen answers stop saw apart took put gave left) clear = elim (on_off (asks_table (new_demand x seen))) [
  | inl on ↦ inr on
  | inr off ↦ inl ((took_silent _ x.level u (new_demand x seen) y answers (Ok tt) off took).0, λ ok. absurd (cc))
]
exchanged_silent v x o _ _ _ (exchanging.Exchanged.done u y z a w seen old answers more saw apart took put left released) clear = elim (on_off (asks_table (new_demand x seen))) [
  | inl on ↦ inr (inl on)
  | inr off ↦ elim (on_off (asks_table (old_demand x old))) [
    | inl on ↦ inr (inr (inl on))
    | inr none ↦ elim (left_clear left) [
      | inl keeps ↦ inl (silent off none keeps)
      | inr last ↦ inr (inr (inr last))
    ]
  ]
]
  where
    silent : asks_table (new_demand x seen) ≡ false → asks_table (old_demand x old) ≡ false → (IsClear z → IsClear a) → Silent w (more ++ answers) (Ok tt)
    silent off none keeps =
        let new = took_silent _ x.level u (new_demand x seen) y answers (Ok tt) off took in
        let gone = released_silent a (old_demand x old) w more none released in
        (rw (new.0, gone.0) refl, λ ok. gone.1 (keeps (put_clear y z _ _ _ _ _ _ put (new.1 refl (clear_on v u (keeps_moves v u _ _ _ _ _ refl saw) clear)))))

-- a write that moves no table asks nothing, and where it is done the old words name none again
module _ (pairs : List Pair) (o : Owners) (k : ℕ) where
  module _ (v z : PortValue) (early : List Bool) (settles : Settles None v z early (Ok tt)) (p : Pair) (at : slice_get pairs k ≡ Some p) (clear : IsClear z) where
    abbrev SilentOr : PortValue → List Bool → Result (Unit {0}) Stop → Type 0
    SilentOr w answers answer = Silent w answers answer ⊎ MovesATable pairs (tried k v w (answers ++ early) answer)

    wrote_silent : (f i word : ℕ) (keep : Bool) → element_of p ≡ Write f i word keep → (w : PortValue) (answers : List Bool) (answer : Result (Unit {0}) Stop) → Wrote z o f i word keep w answers answer → SilentOr w answers answer
    wrote_silent f i word keep writes _ _ _ (updating.Wrote.unreferred w stop got) = inl (refl, λ ok. absurd (cc))
    wrote_silent f i word keep writes _ _ _ (updating.Wrote.unlocked u y w stop got locked gave) = inl (refl, λ ok. absurd (cc))
    wrote_silent f i word keep writes _ _ _ (updating.Wrote.slot u y w level found got locked is left) = inl (refl, λ ok. absurd (cc))
    wrote_silent f i word keep writes _ _ _ (updating.Wrote.exchanged u y w level found answers answer got locked free_slot exchanged) =
        elim (exchanged_silent y (entry_update f level i word keep) o w answers answer exchanged (locked_clear z u y f o.tables level found got locked clear)) [
          | inl silent ↦ inl silent
          | inr moves ↦ inr (exchange, moves)
        ]
      where
        exchange : ExchangesEntry pairs (tried k v w (answers ++ early) answer)
        exchange =
            record {
              owners = o;
              pair = p;
              at = at;
              frame = f;
              index = i;
              word = word;
              keep = keep;
              writes = writes;
              settled = z;
              referred = u;
              held = y;
              level = level;
              found = found;
              early = early;
              answers = answers;
              settles = settles;
              got = got;
              locked = locked;
              open_slot = free_slot;
              exchanged = exchanged;
              asked = refl;
            }
    wrote_silent f i word keep writes _ _ _ (updating.Wrote.untaken u y w found stop got other took) = inl (refl, λ ok. absurd (cc))
    wrote_silent f i word keep writes _ _ _ (updating.Wrote.stored u y a b w found old got other took stores gave) =
        inl (refl, λ ok. stored_clear z u y a b w f o.tables i word found old got other took gave clear (λ now. clear_on a b (keeps_moves a b _ _ _ _ _ refl stores) now))

    updated_silent : (e : Element) → element_of p ≡ e → (w : PortValue) (answers : List Bool) (answer : Result (Unit {0}) Stop) → Updated z o e w answers answer → SilentOr w answers answer
    updated_silent (SetM2p f gpfn) is w answers answer u = inl (u.0, λ ok. clear_on z w (keeps_does z w _ (maps z.post.machine f o.frames gpfn answer) u.1) clear)
    updated_silent (Write f i word keep) is w answers answer u = wrote_silent f i word keep is w answers answer u
    updated_silent Misaligned is w answers answer u = inl (u.1, λ ok. subst IsClear (sym u.0) clear)
    updated_silent Unknown is w answers answer u = inl (u.1, λ ok. subst IsClear (sym u.0) clear)

  pair_silent : (x : Option Pair) → slice_get pairs k ≡ x → (v w : PortValue) (asked : List Bool) (answer : Result (Unit {0}) Stop) → IsClear v → FitsPair o x v w asked answer → Silent w asked answer ⊎ MovesATable pairs (tried k v w asked answer)
  pair_silent None at v w asked answer clear fit = absurd fit
  pair_silent (Some p) at v _ _ _ clear (settling.SettlesFirst.unsettled w answers stop s) = absurd (let ok = (settled_silent v w answers (Err stop) clear s.course).1 in cc)
  pair_silent (Some p) at v _ _ _ clear (settling.SettlesFirst.performed z w early answers answer s u) =
      let none = (settled_silent v z early (Ok tt) clear s.course).0 in
      elim (updated_silent v z early s p at (settled_clear v z early (Ok tt) refl clear.runs s.course) (element_of p) refl w answers answer u.course) [
        | inl silent ↦ inl (quiet none silent.0, silent.1)
        | inr moves ↦ inr moves
      ]
    where
      quiet : early ≡ [] → answers ≡ [] → answers ++ early ≡ []
      quiet a b = rw (a, b) refl

-- ---- a list
abbrev Asked : Tried → Type 0
Asked t = t.asked ≡ []

abbrev pub SilentAll : List Pair → List Tried → Type 0
SilentAll pairs items = AsksNothingWithin items ⊎ Any (λ t. MovesATable pairs t) items

module _ (pairs : List Pair) (o : Owners) where
  silent_at : (k : ℕ) (u w : PortValue) (asked : List Bool) (answer : Result (Unit {0}) Stop) → IsClear u → PairFits o pairs k u w asked answer → Silent w asked answer ⊎ MovesATable pairs (tried k u w asked answer)
  silent_at k u w asked answer now fit = pair_silent pairs o k (slice_get pairs k) refl u w asked answer now fit

module _ (pairs : List Pair) (o : Owners) {count from : ℕ} {v : PortValue} (clear : IsClear v) where
  did_silent : {to : ℕ} {w : PortValue} {answers : List Bool} → (did : DidItems (PairFits o pairs) count from v to w answers) → (AsksNothingWithin (did_in did) × IsClear w) ⊎ Any (λ t. MovesATable pairs t) (did_in did)
  did_silent lists.DidItems.none = inl (All-nil Asked, clear)
  did_silent (lists.DidItems.more k u w answers asked did fit less) = elim (did_silent did) [
    | inl before ↦ elim (silent_at pairs o k u w asked (Ok tt) before.1 fit) [
      | inl now ↦ inl (All-cons Asked (tried k u w asked (Ok tt)) (did_in did) now.0 before.0, now.1 refl)
      | inr moves ↦ inr (any_now (λ t. MovesATable pairs t) (tried k u w asked (Ok tt)) (did_in did) moves)
    ]
    | inr moved ↦ inr (any_later (λ t. MovesATable pairs t) (tried k u w asked (Ok tt)) (did_in did) moved)
  ]

  last_silent : {k : ℕ} {u : PortValue} {answers : List Bool} → (did : DidItems (PairFits o pairs) count from v k u answers) → (w : PortValue) (asked : List Bool) (answer : Result (Unit {0}) Stop) → PairFits o pairs k u w asked answer →
      SilentAll pairs (tried k u w asked answer ∷ did_in did)
  last_silent {k} {u} did w asked answer fit = elim (did_silent did) [
    | inl before ↦ elim (silent_at pairs o k u w asked answer before.1 fit) [
      | inl now ↦ inl (All-cons Asked (tried k u w asked answer) (did_in did) now.0 before.0)
      | inr moves ↦ inr (any_now (λ t. MovesATable pairs t) (tried k u w asked answer) (did_in did) moves)
    ]
    | inr moved ↦ inr (any_later (λ t. MovesATable pairs t) (tried k u w asked answer) (did_in did) moved)
  ]

  works_silent : {to : ℕ} {w : PortValue} {answers : List Bool} {answer : Result (Unit {0}) Stop} → (works : WorksOn (PairFits o pairs) count from v to w answers answer) → SilentAll pairs (tried_in works)
  works_silent (lists.WorksOn.all_done at) = inl (All-nil Asked)
  works_silent (lists.WorksOn.last_done k u w answers asked did fit at) = last_silent did w asked (Ok tt) fit
  works_silent (lists.WorksOn.due k u w answers asked did fit less) = last_silent did w asked (Ok tt) fit
  works_silent (lists.WorksOn.stopped k u w answers asked e did fit less) = last_silent did w asked (Err e) fit

-- ---- the owners
word_elsewhere : (p : Place) → is_word p ≡ true → elsewhere p ≡ true
word_elsewhere Clock is = refl
word_elsewhere (Pages d) is = refl
word_elsewhere (Life d) is = refl
word_elsewhere (Vcpu s k) is = absurd (cc)
word_elsewhere (Refs f) is = refl
word_elsewhere (Kind f) is = refl
word_elsewhere (M2p f) is = refl
word_elsewhere (Cell f i) is = refl
word_elsewhere (Map k) is = refl
word_elsewhere (Priv d) is = refl

owners_clear : (v w : PortValue) (d foreign : ℕ) (o : Owners) → FindsOwners v w d foreign (Ok o) → IsClear v → IsClear w
owners_clear v w d foreign o finds clear =
    clear_on v w (keeps_does v w _ (λ vs by. EachOf-map IsLook Apart vs (λ x look. word_elsewhere x.place look.word) (owners_look v.post.machine d foreign (Ok o) vs by)) finds.found) clear

-- ---- a turn
begun_runs : (v w : PortValue) (d run life : ℕ) → Begins v w d run life → run ≡ 0 → Known 6 w
unfolding left_by
begun_runs v w d run life b is =
    let post : b.acked.post ≡ v.post = came_post v b.acked (acks_came v b.acked b.acks) in
    keeps_moves b.looked w _ _ _ _ _ refl b.lives 6 (known_left b.acked b.looked _ Load kinds.Look None run b.running 6 (ap (λ (q : Post). Vcpu q.vcpu 6) (sym post)) is)

job_same : (task : Task) (other op : Op) → Some other ≡ Some op → task_of op ≡ Some task → job_of other ≡ OfOne (Some task)
job_same task other op is built = ap job_next is ∙ one_of op task built

module _ (foreign : ℕ) (pairs : List Pair) where
  owned_silent : {d named : ℕ} (list : List Pair) {from : ℕ} (v : PortValue) → IsClear v → {to : ℕ} {w : PortValue} {answers : List Bool} {answer : Result (Unit {0}) Stop} → (works : WorksOwned d named list v from to w answers answer) →
      SilentAll list (tried_owned works)
  owned_silent list v clear (owning.WorksOwned.long to w answers answer above whole) = inl (All-nil (λ (t : Tried). t.asked ≡ []))
  owned_silent list v clear (owning.WorksOwned.none empty) = inl (All-nil (λ (t : Tried). t.asked ≡ []))
  owned_silent list v clear (owning.WorksOwned.unowned w x some few finds) = inl (All-nil (λ (t : Tried). t.asked ≡ []))
  owned_silent {d} {named} list v clear (owning.WorksOwned.owned to u w o answers answer some few finds on) = works_silent list o (owners_clear v u d named o finds clear) on

  pub operation_silent : (d : ℕ) (l : Option Task) (awaited : Option ℕ) → l ≡ Some (OfPairs foreign pairs) → (v : PortValue) → IsClear v → (from to : ℕ) (w : PortValue) (answers : List Bool) (answer : Result ℕ Stop) →
      (works : Works d l awaited v from to w answers answer) → SilentAll pairs (tried_of d l awaited v from to w answers answer works)
  operation_silent d l awaited is v clear from to w answers answer =
      subst (λ (o : Option Task). (works : Works d o awaited v from to w answers answer) → SilentAll pairs (tried_of d o awaited v from to w answers answer works)) (sym is) (λ works. owned_silent pairs v clear works.works)

  job_silent : (d op : ℕ) (job : Job) → job ≡ OfOne (Some (OfPairs foreign pairs)) → (v : PortValue) → IsClear v → (from to : Progress) (w : PortValue) (log log' : List LogLine) (answers : List Bool) (answer : Result ℕ Stop) →
      (went : WentBy d job op v from to w log log' answers answer) → SilentAll pairs (tried_by d job op v from to w log log' answers answer went)
  job_silent d op (OfOne o) is v clear from to w log log' answers answer went = operation_silent d o from.awaited (one_same o (Some (OfPairs foreign pairs)) is) v clear from.done to.done w answers answer went.works
  job_silent d op (OfDestroy x) is v clear from to w log log' answers answer went = absurd (cc)
  job_silent d op (OfCalls calls) is v clear from to w log log' answers answer went = absurd (cc)

  going_silent : (c : Processing) (o : Option Op) (op : Op) → o ≡ Some op → task_of op ≡ Some (OfPairs foreign pairs) → (v : PortValue) (run life : ℕ) → (run ≡ 0 → Known 6 v) → (c2 : Processing) (w : PortValue) (answers : List Bool) (end : TurnEnd) → (does : DoesTurn c o v c2 w answers end) → GoesBy does run life →
      SilentAll pairs (tried_going does)
  going_silent c None op is built v run life runs c2 w answers end does goes = absurd (cc)
  going_silent c (Some other) op is built v run life runs _ _ _ _ (turning.DoesTurn.unsettled w answers p settles) goes = inl (All-nil (λ (t : Tried). t.asked ≡ []))
  going_silent c (Some other) op is built v run life runs _ _ _ _ (turning.DoesTurn.dying found w c2 end dead dies) goes = inl (All-nil (λ (t : Tried). t.asked ≡ []))
  going_silent c (Some other) op is built v run life runs _ _ _ _ (turning.DoesTurn.settled u w c2 early answers end settles on) goes =
      job_silent c.domain (c.answered + 1) (job_of other) (job_same (OfPairs foreign pairs) other op is built) u (settled_clear v u early (Ok tt) refl (runs goes.0) settles.course) c.at on.to w c.log on.log answers on.answer on.went

  pub turn_silent : (c d : Processing) (op : Op) (end : TurnEnd) (v w : PortValue) (answers : List Bool) → next_of c ≡ Some op → task_of op ≡ Some (OfPairs foreign pairs) → (turn : IsTurn c d end v w answers) →
      SilentAll pairs (elements_tried turn)
  turn_silent c d op end v w answers next built turn = going_silent c (next_of c) op next built turn.begun turn.run turn.life (begun_runs v turn.begun c.domain turn.run turn.life turn.begins) d turn.worked answers end turn.does turn.goes

-- ---- lists that set machine-to-physical words alone
sets_m2p : (p : Pair) → p.ptr % 4 ≡ 1 → element_of p ≡ SetM2p (p.ptr / 4096) p.val
sets_m2p p is = rw is refl

module _ (pairs : List Pair) (sets : All (λ (p : Pair). p.ptr % 4 ≡ 1) pairs) where
  one_sets : (k : ℕ) (p : Pair) → slice_get pairs k ≡ Some p → p.ptr % 4 ≡ 1
  one_sets k p is =
      subst (λ (x : Pair). x.ptr % 4 ≡ 1) (get_or_from_slice_get pairs k p p is) (All-get_or (λ (x : Pair). x.ptr % 4 ≡ 1) pairs k p (slice_get_within pairs k p is) sets)

  pub sets_move_none : (t : Tried) → MovesATable pairs t → ⊥
  sets_move_none t m = two_kinds (sym (sets_m2p m.0.pair (one_sets t.number m.0.pair m.0.at)) ∙ m.0.writes)
    where
      two_kinds : {f g i word : ℕ} {keep : Bool} {a : ℕ} → SetM2p f a ≡ Write g i word keep → ⊥
      two_kinds is = cc

-- ---- so they ask between the elements alone, and stop at a yes
pub moves_none : (pairs : List Pair) (items : List Tried) → MovesNoTable pairs items → SilentAll pairs items → AsksNothingWithin items
moves_none pairs items off (inl silent) = silent
moves_none pairs items off (inr moved) = absurd (off moved.0 moved.1 moved.2 (subst (λ (t : Tried). MovesATable pairs t) (sym moved.3) moved.4))

module _ (c d : Processing) (op : Op) (foreign : ℕ) (pairs : List Pair) (end : TurnEnd) (v w : PortValue) (answers : List Bool) (next : next_of c ≡ Some op) (built : task_of op ≡ Some (OfPairs foreign pairs))
    (turn : IsTurn c d end v w answers) (off : MovesNoTable pairs (elements_tried turn)) where
  quiet : AsksNothingWithin (elements_tried turn)
  quiet = moves_none pairs (elements_tried turn) off (turn_silent foreign pairs c d op end v w answers next built turn)

  asks_none : asks_within (elements_tried turn) ≡ 0
  asks_none = within_none (elements_tried turn) quiet

  pub silent_counts : CountsAsks c.left (Some (OfPairs foreign pairs)) c.at.done end answers 0
  silent_counts =
      subst (λ (n : ℕ). CountsAsks c.left (Some (OfPairs foreign pairs)) c.at.done end answers n) asks_none
      (turn_asks c d op (Some (OfPairs foreign pairs)) end v w answers next (one_of op (OfPairs foreign pairs) built) turn)

  pub silent_within : (before : ℕ) (says : ℕ → Bool) → GivesAnswers says before answers → (j : ℕ) → 0 < j → before + j < last_ask → says (before + j) ≡ true → GoesNoFurther c d end (c.at.done + j)
  silent_within before says gives j some less is_yes =
      let none = asks_none in
      let same : c.at.done + (j - asks_within (elements_tried turn)) ≡ c.at.done + j = omega (arith, none) in
      subst (λ (n : ℕ). GoesNoFurther c d end n) same
      (turn_within c d op (Some (OfPairs foreign pairs)) end v w before answers says next (one_of op (OfPairs foreign pairs) built) turn (hears_nothing (elements_tried turn) quiet) gives j some less is_yes)
