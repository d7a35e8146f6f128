-- The way by which an address leads to a table of level 1: what its loads leave in hand, what they serve, and why it may end.
use Rattle.std.proofs.Common.{◌≡◌, ◌≢◌, ℕ, zero, suc, ◌+◌, ◌-◌, ◌<◌, ◌≤◌, ◌&&◌, ◌||◌, not, nat_lt, if◌then◌else◌, Bool, true, false, [], length, None, Some, Result, Ok, Err, IsTrue, refl, sym, ap, ◌∙◌, subst, inl, inr, arith, lit<}
use Rattle.xp_words.specs.Entries.{frame_of, is_bit, is_slot}
use Rattle.xp_words.specs.Machine.{Machine}
use Rattle.xp_words.specs.Places.{is_place, sizes_of}
use Rattle.xp_words.specs.declared.kind.PageType.TheVariants.{L4}
use Rattle.xp_words.specs.declared.place.Place.TheVariants.{Vcpu}
use Rattle.xp_words.specs.declared.reply.Refusal.{Refusal}
use Rattle.xp_words.specs.declared.reply.Refusal.TheVariants.{NonCanonical, NotMapped, Slot}
use Rattle.xp_words.specs.declared.reply.Stop.{Stop}
use Rattle.xp_words.specs.declared.reply.Stop.TheVariants.{Refused}
use Rattle.xp_board.specs.Acts.{left_by}
use Rattle.xp_board.specs.Readings.{is_frame_word}
use Rattle.xp_board.specs.declared.holdings.Claimed.{Claimed}
use Rattle.xp_board.specs.declared.holdings.Lock.{Lock}
use Rattle.xp_board.specs.declared.holdings.Work.{Work}
use Rattle.xp_board.specs.declared.step.Act.TheVariants.{Load}
use Rattle.xp_board.specs.declared.step.StepKind.TheVariants as kinds
use Rattle.xp_board.specs.Told.{Post, PortValue}
use Rattle.xp_board.proofs.Numbers.{vcpu_there}
use Rattle.xp_board.proofs.Sums.{when_eq, when_found}
use Rattle.step_maker.specs.Holds.{Rests, Same, still}
use Rattle.step_maker.specs.Moves.{Came, Met, Moves}
use Rattle.step_maker.proofs.Coming.{came_post, came_self, came_trans, met_before, moves_came}
use Rattle.step_maker.specs.Answers.{Serves, Stops, missed}
use Rattle.step_maker.specs.Asked.{Request}
use Rattle.step_maker.specs.Licences.{IsReached, below, is_unmapped, top}
use Rattle.step_maker.proofs.Changing.{found_after, moves_found}
use Rattle.step_maker.proofs.Growing.{reached}
use Rattle.step_maker.proofs.Piecing.{moves_serves, same_request, serves_nothing, serves_step}
use Rattle.step_maker.proofs.Resting.{none_on, same_rests}
use Rattle.entry_exchange.specs.Course.{SawEntry}
use Rattle.frame_words.specs.Cells.{IsApart}
use Rattle.frame_words.proofs.CellSteps.{look_apart}
use Rattle.level_release.specs.Asking.{is_due_stop}
use Rattle.tlb_walks.specs.Addresses.{index_of, is_canonical, slot_refusal, walk_refusal}
use Rattle.tlb_walks.proofs.Descending.{mapped_inside}
use Rattle.tlb_walks.proofs.Walking.{base_inside}
use Rattle.mmu_update.specs.Addresses as ways
use Rattle.mmu_update.specs.Addresses.{Descends, IsAtStop, Leads, SawBase, next_table}

-- ---- one load
pub own_base_there : (n : Machine) (s : ℕ) → s < length n.vcpu_domain → IsTrue (is_place (sizes_of n) (Vcpu s 0))
own_base_there n s real = vcpu_there (sizes_of n) s 0 real (lit< tt)

pub base_same : (v w : PortValue) (s base : ℕ) → s ≡ v.post.vcpu → Moves v w (Vcpu s 0) Load kinds.Look None base → Same v w
unfolding left_by
base_same v w s base own m = ap still m.to ∙ ap (λ h. still (record v { holdings = h })) (when_found s v.post.vcpu v.holdings v.holdings own)

pub base_few : (v w : PortValue) (s base : ℕ) → s ≡ v.post.vcpu → Moves v w (Vcpu s 0) Load kinds.Look None base → base ≤ v.post.machine.frames
base_few v w s base own m = (base_inside v.post.machine v.post.vcpu base false v.holdings (subst (λ k. Moves v w (Vcpu k 0) Load kinds.Look None base) own m).finds).0

apart : (v : PortValue) (f : ℕ) → Rests v → IsApart f v.holdings
apart v f rests =
    record {
      works = none_on (λ (y : Work). y.frame) f v.holdings.works rests.empty.works;
      locks = none_on (λ (y : Lock). y.frame) f v.holdings.locks rests.empty.locks;
      claimed = none_on (λ (y : Claimed). y.frame) f v.holdings.claimed rests.empty.claimed;
    }

entry_same : (v w : PortValue) (f i x : ℕ) → Rests v → SawEntry v w f i x → Same v w
entry_same v w f i x rests m = look_apart v w f i x m (apart v f rests)

pub entry_rests : (v w : PortValue) (f i x : ℕ) → Rests v → SawEntry v w f i x → Rests w
entry_rests v w f i x rests m = same_rests v w rests (entry_same v w f i x rests m)

entry_came : (v w : PortValue) (f i x : ℕ) → SawEntry v w f i x → Came v w
entry_came v w f i x m = moves_came v w _ _ _ _ _ m

base_came : (v w : PortValue) (base : ℕ) → SawBase v w base → Came v w
base_came v w base m = moves_came v w _ _ _ _ _ m

-- ---- one entry
unmapped_by : (b c : Bool) (f : ℕ) → (if b && c then Some f else None) ≡ None → (not b || not c) ≡ true
unmapped_by true true f none = absurd cc
unmapped_by true false f none = refl
unmapped_by false c f none = refl

mapped_by : (b c : Bool) (f g : ℕ) → (if b && c then Some f else None) ≡ Some g → (g ≡ f) × ((not b || not c) ≡ false)
mapped_by true true f g some = (cc, refl)
mapped_by true false f g some = absurd cc
mapped_by false c f g some = absurd cc

-- its entry names a frame of the machine
module _ {v u : PortValue} {frames table i x f : ℕ} (all : frames ≡ v.post.machine.frames) (saw : SawEntry v u table i x) (some : next_table frames x ≡ Some f) where
  mapped : (f ≡ frame_of x) × (is_unmapped v.post.machine x ≡ false)
  mapped = mapped_by (is_bit 0 x) (nat_lt (frame_of x) v.post.machine.frames) (frame_of x) f (subst (λ k. next_table k x ≡ Some f) all some)

  pub below_inside : f < u.post.machine.frames
  below_inside =
      subst (λ (p : Post). f < p.machine.frames) (sym (came_post v u (entry_came v u table i x saw))) (subst (λ k. k < v.post.machine.frames) (sym mapped.0) (mapped_inside v.post.machine x mapped.1))

  module _ {va level : ℕ} (here : i ≡ index_of va level) where
    pub reaches_here : level ≡ 2 → Descends va u (Ok f) v level table
    reaches_here two = ways.reached v level table x two (subst (λ j. SawEntry v u table j x) here saw) mapped.1 (ap Ok mapped.0)

    pub goes_down : {w : PortValue} {answer : Result ℕ Stop} → 2 ≤ level → level ≢ 2 → Descends va w answer u (level - 1) f → Descends va w answer v level table
    goes_down {w} {answer} low more rest = ways.goes v u level table x (omega (arith, low, more)) (subst (λ j. SawEntry v u table j x) here saw) mapped.1 (subst (λ k. Descends va w answer u (level - 1) k) mapped.0 rest)

-- or none
pub ends_here : {v u : PortValue} {frames va level table i x : ℕ} → frames ≡ v.post.machine.frames → i ≡ index_of va level → SawEntry v u table i x → next_table frames x ≡ None →
    Descends va u (Err (Refused (NotMapped level x))) v level table
ends_here {v} {u} {frames} {va} {level} {table} {i} {x} all here saw none =
    ways.unmapped v level table x (subst (λ j. SawEntry v u table j x) here saw)
    (unmapped_by (is_bit 0 x) (nat_lt (frame_of x) v.post.machine.frames) (frame_of x) (subst (λ k. next_table k x ≡ None) all none)) refl

-- ---- from a table down
pub descends_came : (va : ℕ) (w : PortValue) (answer : Result ℕ Stop) (v : PortValue) (level table : ℕ) → Descends va w answer v level table → Came v w
descends_came va w answer v level table (ways.unmapped _ _ _ x m off is) = entry_came v w table (index_of va level) x m
descends_came va w answer v level table (ways.reached _ _ _ x two m on is) = entry_came v w table (index_of va level) x m
descends_came va w answer v level table (ways.goes _ u _ _ x more m on rest) =
    came_trans v u w (entry_came v u table (index_of va level) x m) (descends_came va w answer u (level - 1) (frame_of x) rest)

pub descends_same : (va : ℕ) (w : PortValue) (answer : Result ℕ Stop) (v : PortValue) (level table : ℕ) → Rests v → Descends va w answer v level table → Same v w
descends_same va w answer v level table rests (ways.unmapped _ _ _ x m off is) = entry_same v w table (index_of va level) x rests m
descends_same va w answer v level table rests (ways.reached _ _ _ x two m on is) = entry_same v w table (index_of va level) x rests m
descends_same va w answer v level table rests (ways.goes _ u _ _ x more m on rest) =
    descends_same va w answer u (level - 1) (frame_of x) (entry_rests v u table (index_of va level) x rests m) rest ∙ entry_same v u table (index_of va level) x rests m

-- the frame that it finds is the machine's
pub descends_inside : (va : ℕ) (w : PortValue) (t : ℕ) (v : PortValue) (level table : ℕ) → Descends va w (Ok t) v level table → t < v.post.machine.frames
descends_inside va w t v level table (ways.unmapped _ _ _ x m off is) = absurd cc
descends_inside va w t v level table (ways.reached _ _ _ x two m on is) = let same : t ≡ frame_of x = cc in subst (λ k. k < v.post.machine.frames) (sym same) (mapped_inside v.post.machine x on)
descends_inside va w t v level table (ways.goes _ u _ _ x more m on rest) =
    subst (λ (p : Post). t < p.machine.frames) (came_post v u (entry_came v u table (index_of va level) x m)) (descends_inside va w t u (level - 1) (frame_of x) rest)

module _ (r : Request) (walks : r.walks ≡ true) (o : PortValue) where
  pub descends_serves : (va : ℕ) (w : PortValue) (answer : Result ℕ Stop) (v : PortValue) (level table : ℕ) → Serves o v r [] → Descends va w answer v level table → Serves o w r []
  descends_serves va w answer v level table before (ways.unmapped _ _ _ x m off is) = serves_step o v w r [] _ _ _ _ _ before m (inr (inl walks))
  descends_serves va w answer v level table before (ways.reached _ _ _ x two m on is) = serves_step o v w r [] _ _ _ _ _ before m (inr (inl walks))
  descends_serves va w answer v level table before (ways.goes _ u _ _ x more m on rest) =
      descends_serves va w answer u (level - 1) (frame_of x) (serves_step o v u r [] _ _ _ _ _ before m (inr (inl walks))) rest

  -- a walk reached that table
  abbrev ReachedBy : PortValue → ℕ → ℕ → Type 0
  ReachedBy v level table = IsReached o.post.machine o.post.vcpu (Met o v) level table

  reached_later : (v u : PortValue) (level table : ℕ) → Came v u → ReachedBy v level table → ReachedBy u level table
  reached_later v u level table came a =
      reached o.post.machine o.post.vcpu r (Met o v) r (Met o u) (same_request o.post.machine o.post.vcpu r (Met o v) (Met o u) (λ k x. met_before o v u k x came)) level table a

  reached_below : (v u : PortValue) (level table i x : ℕ) → 2 < level → Came o v → ReachedBy v level table → SawEntry v u table i x → is_unmapped v.post.machine x ≡ false → ReachedBy u (level - 1) (frame_of x)
  reached_below v u level table i x more came a m on =
      let same : level ≡ level - 1 + 1 = omega (arith, more) in
      below (level - 1) table i x (subst (λ l. ReachedBy u l table) same (reached_later v u level table (moves_came v u _ _ _ _ _ m) a))
      (found_after o v u _ _ came (moves_found v u _ _ _ _ _ m))
      (subst (λ (p : Post). is_unmapped p.machine x ≡ false) (came_post o v came) on)

  pub descends_stops : (va : ℕ) (w : PortValue) (e : Stop) (v : PortValue) (level table : ℕ) → Came o v → ReachedBy v level table → 1 < level → level < 5 → Descends va w (Err e) v level table → Stops o w r e
  unfolding Stops
  descends_stops va w e v level table came a low high (ways.unmapped _ _ _ x m off is) =
      let same : e ≡ Refused (NotMapped level x) = cc in
      subst (λ y. Stops o w r y) (sym same)
      (inr (
        omega (arith, low),
        high,
        walks,
        (
          table,
          index_of va level,
          reached_later v w level table (moves_came v w _ _ _ _ _ m) a,
          found_after o v w _ _ came (moves_found v w _ _ _ _ _ m),
          subst (λ (p : Post). is_unmapped p.machine x ≡ true) (came_post o v came) off,
        ),
      ))
  descends_stops va w e v level table came a low high (ways.reached _ _ _ x two m on is) = absurd cc
  descends_stops va w e v level table came a low high (ways.goes _ u _ _ x more m on rest) =
      descends_stops va w e u (level - 1) (frame_of x) (came_trans o v u came (moves_came v u _ _ _ _ _ m)) (reached_below v u level table (index_of va level) x more came a m on) (omega (arith, more)) (omega (arith, high)) rest

-- ---- the numbers of an address
by_slot : (P : Refusal → Type 0) → ((i : ℕ) → IsTrue (is_slot L4 i) → P (Slot i)) → (i : ℕ) (x : Refusal) (b : Bool) → is_slot L4 i ≡ b → (if b then Some (Slot i) else None) ≡ Some x → P x
by_slot P slot i x true on e = let same : x ≡ Slot i = cc in subst P (sym same) (slot i on)
by_slot P slot i x false on e = absurd cc

by_numbers : (P : Refusal → Type 0) → P NonCanonical → ((i : ℕ) → IsTrue (is_slot L4 i) → P (Slot i)) → (i : ℕ) (x : Refusal) (b : Bool) → (if b then slot_refusal i else Some NonCanonical) ≡ Some x → P x
by_numbers P plain slot i x true e = by_slot P slot i x (is_slot L4 i) refl e
by_numbers P plain slot i x false e = let same : x ≡ NonCanonical = cc in subst P (sym same) plain

-- what holds of the two refusals that an address alone may have
by_address : (P : Refusal → Type 0) → P NonCanonical → ((i : ℕ) → IsTrue (is_slot L4 i) → P (Slot i)) → (va : ℕ) (x : Refusal) → walk_refusal va ≡ Some x → P x
by_address P plain slot va x e = by_numbers P plain slot (index_of va 4) x (is_canonical va) e

-- ---- the whole way
frame_word : (base : ℕ) → base ≢ 0 → IsTrue (is_frame_word (base - 1) base)
frame_word zero some = absurd (some refl)
frame_word (suc k) some = when_eq (suc k) (suc k - 1 + 1) (omega arith)

module _ (v w : PortValue) (va : ℕ) where
  pub leads_came : (answer : Result ℕ Stop) → Leads v va w answer → Came v w
  leads_came answer (ways.barred x why stay is) = subst (λ q. Came v q) (sym stay) (came_self v)
  leads_came answer (ways.unbased go m is) = base_came v w 0 m
  leads_came answer (ways.based u base go some m path) = came_trans v u w (base_came v u base m) (descends_came va w answer u 4 (base - 1) path)

  pub leads_same : (answer : Result ℕ Stop) → Rests v → Leads v va w answer → Same v w
  leads_same answer rests (ways.barred x why stay is) = ap still stay
  leads_same answer rests (ways.unbased go m is) = base_same v w v.post.vcpu 0 refl m
  leads_same answer rests (ways.based u base go some m path) =
      let first = base_same v u v.post.vcpu base refl m in descends_same va w answer u 4 (base - 1) (same_rests v u rests first) path ∙ first

  pub leads_inside : (t : ℕ) → Leads v va w (Ok t) → t < v.post.machine.frames
  leads_inside t (ways.barred x why stay is) = absurd cc
  leads_inside t (ways.unbased go m is) = absurd cc
  leads_inside t (ways.based u base go some m path) = subst (λ (p : Post). t < p.machine.frames) (came_post v u (base_came v u base m)) (descends_inside va w t u 4 (base - 1) path)

  -- it goes on only where its numbers refuse nothing
  pub leads_free : (t : ℕ) → Leads v va w (Ok t) → walk_refusal va ≡ None
  leads_free t (ways.barred x why stay is) = absurd cc
  leads_free t (ways.unbased go m is) = go
  leads_free t (ways.based u base go some m path) = go

  pub leads_numbers : (e : Stop) (x : Refusal) → Leads v va w (Err e) → walk_refusal va ≡ Some x → e ≡ Refused x
  leads_numbers e x (ways.barred y why stay is) on = cc
  leads_numbers e x (ways.unbased go m is) on = absurd cc
  leads_numbers e x (ways.based u base go some m path) on = absurd cc

  module _ (r : Request) (walks : r.walks ≡ true) where
    pub leads_serves : (answer : Result ℕ Stop) → Leads v va w answer → Serves v w r []
    leads_serves answer (ways.barred x why stay is) = subst (λ q. Serves v q r []) (sym stay) (serves_nothing v r)
    leads_serves answer (ways.unbased go m is) = moves_serves v w r _ _ _ _ _ m tt
    leads_serves answer (ways.based u base go some m path) = descends_serves r walks v va w answer u 4 (base - 1) (moves_serves v u r _ _ _ _ _ m tt) path

    address_stops : (x : Refusal) → walk_refusal va ≡ Some x → r.by_numbers ≡ Some x → Stops v w r (Refused x)
    unfolding Stops
    address_stops x why = by_address (λ y. r.by_numbers ≡ Some y → Stops v w r (Refused y)) (λ on. on) (λ i slot on. (slot, inl on)) va x why

    no_base : SawBase v w 0 → Stops v w r (Refused (NotMapped 5 0))
    unfolding Stops
    no_base m = inl (refl, refl, walks, (0, lit< tt, moves_found v w _ _ _ _ _ m))

    pub leads_stops : (e : Stop) → r.by_numbers ≡ walk_refusal va → Leads v va w (Err e) → Stops v w r e
    leads_stops e by (ways.barred x why stay is) = let same : e ≡ Refused x = cc in subst (λ y. Stops v w r y) (sym same) (address_stops x why (by ∙ why))
    leads_stops e by (ways.unbased go m is) = let same : e ≡ Refused (NotMapped 5 0) = cc in subst (λ y. Stops v w r y) (sym same) (no_base m)
    leads_stops e by (ways.based u base go some m path) =
        descends_stops r walks v va w e u 4 (base - 1) (base_came v u base m) (top 0 base (base - 1) (lit< tt) (moves_found v u _ _ _ _ _ m) (frame_word base some)) (lit< tt) (lit< tt) path

-- ---- why it ends
abbrev IsWayStop : Stop → Type 0
IsWayStop e = IsAtStop e × (is_due_stop e ≡ false) × ((n : Machine) → missed n e ≡ [])

descends_kind : (va : ℕ) (w : PortValue) (e : Stop) (v : PortValue) (level table : ℕ) → Descends va w (Err e) v level table → IsWayStop e
descends_kind va w e v level table (ways.unmapped _ _ _ x m off is) = let same : e ≡ Refused (NotMapped level x) = cc in subst IsWayStop (sym same) (tt, refl, λ n. refl)
descends_kind va w e v level table (ways.reached _ _ _ x two m on is) = absurd cc
descends_kind va w e v level table (ways.goes _ u _ _ x more m on rest) = descends_kind va w e u (level - 1) (frame_of x) rest

pub leads_kind : (v w : PortValue) (va : ℕ) (e : Stop) → Leads v va w (Err e) → IsWayStop e
leads_kind v w va e (ways.barred x why stay is) =
    let same : e ≡ Refused x = cc in subst IsWayStop (sym same) (by_address (λ y. IsWayStop (Refused y)) (tt, refl, λ n. refl) (λ i slot. (tt, refl, λ n. refl)) va x why)
leads_kind v w va e (ways.unbased go m is) = let same : e ≡ Refused (NotMapped 5 0) = cc in subst IsWayStop (sym same) (tt, refl, λ n. refl)
leads_kind v w va e (ways.based u base go some m path) = descends_kind va w e u 4 (base - 1) path
