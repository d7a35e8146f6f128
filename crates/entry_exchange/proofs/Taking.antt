-- What an entry asks is taken: by the call, all that is said of it.
use Rattle.std.proofs.Common.{◌≡◌, ◌≢◌, ◌⊎◌, ℕ, ◌+◌, ◌-◌, ◌==◌, ◌<◌, ◌≤◌, not, Bool, true, false, List, [], ◌∷◌, ◌++◌, Option, Some, None, Result, Ok, Err, refl, rules, sym, ap, ◌∙◌, subst, arith, inl, inr}
use Rattle.xp_words.specs.Entries.{below}
use Rattle.xp_words.specs.Machine.{Machine}
use Rattle.xp_words.specs.PageTypes.{is_table}
use Rattle.xp_words.specs.declared.entry.Demand.{Demand}
use Rattle.xp_words.specs.declared.entry.Demand.TheVariants.{Bad, Nothing, Read, Typed}
use Rattle.xp_words.specs.declared.kind.PageType.{PageType}
use Rattle.xp_words.specs.declared.kind.PageType.TheVariants.{Writable}
use Rattle.xp_words.specs.declared.place.Place.TheVariants.{Kind}
use Rattle.xp_words.specs.declared.reply.Stop.{Stop}
use Rattle.xp_words.specs.declared.reply.Stop.TheVariants.{Paused, Refused}
use Rattle.xp_board.specs.Readings.{domain_of}
use Rattle.xp_board.specs.Told.{PortValue}
use Rattle.xp_preempt.specs.Gates.{Gate}
use Rattle.xp_preempt.proofs.Consulting.{gated_past, past_as, past_none}
use Rattle.xp_board.proofs.Sums.{when_eq}
use Rattle.step_maker.specs.Holds.{FlushedHolds, Holds, Same, quiet}
use Rattle.step_maker.specs.Moves.{Came, Met}
use Rattle.step_maker.proofs.Coming.{came_self}
use Rattle.step_maker.specs.Answers.{Deed, Misses, Serves, Stops, missed}
use Rattle.step_maker.specs.Asked.{Implies, IsFor, Request, Within, named, of_frame, of_table}
use Rattle.step_maker.specs.Finding.{Finding}
use Rattle.step_maker.specs.Rising.{IsOfSame, NeedsOwners}
use Rattle.step_maker.proofs.Grown.{grown_where, implied, risen}
use Rattle.step_maker.proofs.Piecing.{serves_came, serves_nothing, serves_within, stops_within, within_frame}
use Rattle.frame_words.specs.Refs.{took}
use Rattle.kept_marks.specs.Marks.{IsForeign}
use Rattle.level_release.specs.Asking.{is_due_answer, is_due_stop}
use Rattle.level_validate.specs.Acquiring as acquires
use Rattle.level_validate.specs.Acquiring.{AcquiresBy, IsAcquireStop, LeavesAcquired, ServesAcquired, is_paused_answer, of_acquire}
use Rattle.level_validate.specs.Unwinding.{own_domain}
use Rattle.partial_state.specs.Levels.{level_type}
use Rattle.partial_state.proofs.LevelFacts.{level_type-table, level_type-under}
use Rattle.table_entries.specs.Acquiring.{Acquired, GotRef}
use Rattle.writable_pages.specs.Pages.{GotPage, HidesMark, LeavesGot, ServesPage, of_page}
use Rattle.entry_exchange.specs.Asking.{IsHidden}
use Rattle.entry_exchange.specs.Course.{TookDemand}
use Rattle.entry_exchange.specs.Course as courses
use Rattle.entry_exchange.specs.Holding.{LeavesDemand}
use Rattle.entry_exchange.specs.Parts.{DemandTaken, IsOfLevel}
use Rattle.entry_exchange.specs.Serving.{of_demand}
use Rattle.entry_exchange.proofs.PageKinds.{page_why, ref_why}

-- ---- a call on the frame, within the demand
module _ (n : Machine) (s f owner pages within_pages : ℕ) (t : PageType) (want : Option PageType) (rose up marks entries : Bool) (F : Finding) where
  abbrev inner : Request
  inner = record (of_table f owner want pages rose) { locks = marks; entries = entries }

  abbrev outer : Request
  outer = of_demand (Typed f t) owner within_pages up

  module _ (is : want ≡ Some t) (fits : entries ≡ true → (is_table t ≡ true) × (pages ≡ within_pages)) where
    same_owners : NeedsOwners inner → IsOfSame inner outer
    same_owners (inl on) = record { owner = refl; pages_of = (fits on).1 }
    same_owners (inr (inl a)) = absurd cc
    same_owners (inr (inr (inl a))) = absurd cc
    same_owners (inr (inr (inr a))) = absurd (let b = a.1 in cc)

    within_demand : Implies rose up → Within n s inner F outer F
    within_demand rises =
        let gate = implied rose up rises in
        let tables = implied entries (is_table t) (λ on. (fits on).0) in
        let marking = risen marks in
        grown_where n s inner outer F F (λ m a. a) (search (rules, gate, tables, marking)) same_owners (λ g here k less. named here refl (subst (λ w. IsFor k w) is less)) (λ any g here. here) (λ g none. absurd cc)

-- ---- it asks nothing, and no step is made
pub nothing_taken : {v : PortValue} {owner level : ℕ} {d : Demand} {k : Gate} → IsOfLevel level d → (d ≡ Nothing) ⊎ (d ≡ Bad) →
    DemandTaken v v owner level d k k (Ok tt)
nothing_taken {v} {level = level} fits (inr is) = absurd (subst (λ k. IsOfLevel level k) is fits)
nothing_taken {v} {owner} fits (inl is) =
    rw is (record {
      came = came_self v;
      inside = tt;
      serves = λ pages. record { hidden = []; may = refl; serves = serves_nothing v (of_demand Nothing owner pages false) };
      stops = λ pages. tt;
      kinds = tt;
      hand = refl;
      course = past_none refl courses.nothing;
    })

-- ---- a reference
referring : (v w : PortValue) (g owner pages : ℕ) (rose : Bool) → Within v.post.machine v.post.vcpu (of_frame g owner None) (Met v w) (of_demand (Read g) owner pages rose) (Met v w)
referring v w g owner pages rose = within_frame v.post.machine v.post.vcpu g owner None (of_demand (Read g) owner pages rose) (Met v w) (Met v w) (λ m a. a) (named (when_eq g g refl) refl tt)

pub hides_none : (e : Stop) → IsHidden e []
hides_none (Refused x) = refl
hides_none (Paused x) = inl refl

module _ {v w : PortValue} {owner level g : ℕ} {k : Gate} where
  pub referred : {h : ℕ} → (h ≡ g) × (h < v.post.machine.frames) → GotRef v w g owner (Ok h) → Serves v w (of_frame g owner None) [] → Holds v w (took h owner v.holdings) →
      DemandTaken v w owner level (Read g) k k (Ok tt)
  referred at got serves hand =
      record {
        came = serves_came v w (of_frame g owner None) [] serves;
        inside = subst (λ k. k < v.post.machine.frames) at.0 at.1;
        serves = λ pages. record { hidden = []; may = refl; serves = serves_within v w (of_frame g owner None) (of_demand (Read g) owner pages false) [] (referring v w g owner pages false) serves };
        stops = λ pages. tt;
        kinds = tt;
        hand = subst (λ k. FlushedHolds v w (took k owner v.holdings)) at.0 (ap quiet hand);
        course = past_none refl (courses.referred w g (subst (λ k. GotRef v w g owner (Ok k)) at.0 got));
      }

  pub unreferred : {stop : Stop} → GotRef v w g owner (Err stop) → Serves v w (of_frame g owner None) (missed v.post.machine stop) → Same v w →
      DemandTaken v w owner level (Read g) k k (Err stop)
  unreferred {stop} got serves same =
      let why = ref_why v w g owner stop got in
      let within = λ (pages : ℕ). referring v w g owner pages (is_due_stop stop) in
      record {
        came = serves_came v w (of_frame g owner None) (missed v.post.machine stop) serves;
        inside = tt;
        serves = λ pages. record {
          hidden = [];
          may = hides_none stop;
          serves = serves_within v w (of_frame g owner None) (of_demand (Read g) owner pages (is_due_stop stop)) (missed v.post.machine stop) (within pages) serves;
        };
        stops = λ pages. stops_within v w (of_frame g owner None) (of_demand (Read g) owner pages (is_due_stop stop)) stop (within pages) got.stops;
        kinds = why.0;
        hand = (v.holdings.old0, ap quiet same);
        course = past_none why.1 (courses.unreferred w g stop got);
      }

-- ---- a page
pub hides_mark : (v : PortValue) (owner g : ℕ) (e : Stop) (ds : List Deed) → (ds ≡ []) ⊎ (HidesMark {A = ℕ} v owner (Err e) × (ds ≡ Misses (Kind g) ∷ [])) → IsHidden e ds
hides_mark v owner g e ds (inl none) = subst (λ xs. IsHidden e xs) (sym none) (hides_none e)
hides_mark v owner g (Refused x) ds (inr one) = absurd one.0
hides_mark v owner g (Paused x) ds (inr one) = inr (g, one.1)

module _ (v w : PortValue) (owner g : ℕ) where
  paging : (pages : ℕ) (rose : Bool) → Within v.post.machine v.post.vcpu (of_page v g owner) (Met v w) (of_demand (Typed g Writable) owner pages rose) (Met v w)
  paging pages rose =
      within_demand v.post.machine v.post.vcpu g owner owner pages Writable (Some Writable) false rose (not (owner == domain_of v.post.machine v.post.vcpu)) false (Met v w) refl (λ on. absurd cc)
      (λ on. absurd cc)

  unpaged_hand : (d : Demand) (stop : Stop) → LeavesGot v w g owner (Err stop) → LeavesDemand v w d owner (Err stop)
  unpaged_hand d (Refused x) leaves = (v.holdings.old0, leaves)
  unpaged_hand d (Paused x) (inl leaves) = (v.holdings.old0, leaves)
  unpaged_hand d (Paused x) (inr leaves) = (Some (g + 1), leaves.1)

module _ {v w : PortValue} {owner g level : ℕ} {k : Gate} (one : level ≡ 1) where
  pub paged : {h : ℕ} → Came v w → (h ≡ g) × (h < v.post.machine.frames) → ServesPage v w g owner (Ok h) → LeavesGot v w g owner (Ok h) → GotPage v g owner w (Ok h) →
      DemandTaken v w owner level (Typed g Writable) k k (Ok tt)
  paged {h} came at serves hand got =
      record {
        came = came;
        inside = subst (λ k. k < v.post.machine.frames) at.0 at.1;
        serves = λ pages. record {
          hidden = serves.hidden;
          may = paged_hides serves.hidden serves.may;
          serves = serves_within v w (of_page v g owner) (of_demand (Typed g Writable) owner pages false) (serves.hidden ++ []) (paging v w owner g pages false) serves.serves;
        };
        stops = λ pages. tt;
        kinds = tt;
        hand = subst (λ k. LeavesGot v w g owner (Ok k)) at.0 hand;
        course = past_none refl (courses.paged w g one (subst (λ k. GotPage v g owner w (Ok k)) at.0 got));
      }
    where
      paged_hides : (ds : List Deed) → (ds ≡ []) ⊎ (HidesMark {A = ℕ} v owner (Ok h) × (ds ≡ Misses (Kind g) ∷ [])) → ds ≡ []
      paged_hides ds (inl none) = none
      paged_hides ds (inr one) = absurd one.0

  pub unpaged : {stop : Stop} → Came v w → ServesPage {A = ℕ} v w g owner (Err stop) → Stops v w (of_page v g owner) stop → LeavesGot v w g owner (Err stop) → GotPage v g owner w (Err stop) →
      DemandTaken v w owner level (Typed g Writable) k k (Err stop)
  unpaged {stop} came serves stops hand got =
      let why = page_why v w g owner stop got in
      record {
        came = came;
        inside = tt;
        serves = λ pages. record {
          hidden = serves.hidden;
          may = hides_mark v owner g stop serves.hidden serves.may;
          serves = serves_within v w (of_page v g owner) (of_demand (Typed g Writable) owner pages (is_due_stop stop)) (serves.hidden ++ missed v.post.machine stop)
              (paging v w owner g pages (is_due_stop stop)) serves.serves;
        };
        stops = λ pages. stops_within v w (of_page v g owner) (of_demand (Typed g Writable) owner pages (is_due_stop stop)) stop (paging v w owner g pages (is_due_stop stop)) stops;
        kinds = why.0;
        hand = unpaged_hand v w owner g (Typed g Writable) stop hand;
        course = past_none why.1 (courses.unpaged w g stop one got);
      }

-- ---- a table
module _ (v w : PortValue) (owner level g : ℕ) where
  acquiring : (answer : Result ℕ Stop) (pages : ℕ) (rose : Bool) → 2 ≤ level → (acquires.is_due_answer answer ≡ true → rose ≡ true) →
      Within v.post.machine v.post.vcpu (of_acquire v g owner (level - 1) pages answer) (Met v w) (of_demand (Typed g (level_type (level - 1))) owner pages rose) (Met v w)
  acquiring answer pages rose above rises =
      within_demand v.post.machine v.post.vcpu g owner pages pages (level_type (level - 1)) (Some (level_type (level - 1))) (acquires.is_due_answer answer) rose (not (owner == own_domain v)) true
      (Met v w) refl
      (λ on. (level_type-table (level - 1) (omega (arith, above)), refl)) rises

  unacquired_hides : (e : Stop) (ds : List Deed) → (ds ≡ []) ⊎ (IsForeign v owner × (is_paused_answer {A = ℕ} (Err e) ≡ true) × (ds ≡ Misses (Kind g) ∷ [])) → IsHidden e ds
  unacquired_hides e ds (inl none) = subst (λ xs. IsHidden e xs) (sym none) (hides_none e)
  unacquired_hides (Refused x) ds (inr one) = absurd (let on = one.1 in cc)
  unacquired_hides (Paused x) ds (inr one) = inr (g, one.2)

  refused_hand : (d : Demand) (stop : Stop) → LeavesAcquired v w g owner (level - 1) (Err stop) → LeavesDemand v w d owner (Err stop)
  refused_hand d (Refused x) (inl leaves) = (v.holdings.old0, leaves)
  refused_hand d (Refused x) (inr leaves) = (Some (g + 1), leaves)
  refused_hand d (Paused x) (inl leaves) = (v.holdings.old0, leaves)
  refused_hand d (Paused x) (inr leaves) = (Some (g + 1), leaves.1)

module _ {v w : PortValue} {owner level g : ℕ} {j k : Gate} (above : 2 ≤ level) where
  pub acquired : {h : ℕ} → (h ≡ g) × (h < v.post.machine.frames) → ((pages : ℕ) → ServesAcquired v w g owner (level - 1) pages (Ok h)) → LeavesAcquired v w g owner (level - 1) (Ok h) →
      AcquiresBy v w g owner (level - 1) j k (Ok h) → DemandTaken v w owner level (Typed g (level_type (level - 1))) j k (Ok tt)
  acquired {h} at serves hand by =
      record {
        came = serves_came v w (of_acquire {A = ℕ} v g owner (level - 1) 0 (Ok h)) ((serves 0).hidden ++ []) (serves 0).serves;
        inside = subst (λ k. k < v.post.machine.frames) at.0 at.1;
        serves = λ pages. record {
          hidden = (serves pages).hidden;
          may = acquired_hides (serves pages).hidden (serves pages).may;
          serves = serves_within v w (of_acquire {A = ℕ} v g owner (level - 1) pages (Ok h)) (of_demand (Typed g (level_type (level - 1))) owner pages false) ((serves pages).hidden ++ [])
              (acquiring v w owner level g (Ok h) pages false above (λ on. absurd cc)) (serves pages).serves;
        };
        stops = λ pages. tt;
        kinds = tt;
        hand = subst (λ k. LeavesAcquired v w g owner (level - 1) (Ok k)) at.0 hand;
        course = past_as (λ on. absurd cc) (λ xs got. courses.acquired w g xs above (subst (λ k. Acquired v g owner (level - 1) w xs (Ok k)) at.0 got)) (gated_past by);
      }
    where
      acquired_hides : (ds : List Deed) → (ds ≡ []) ⊎ (IsForeign v owner × (is_paused_answer {A = ℕ} (Ok h) ≡ true) × (ds ≡ Misses (Kind g) ∷ [])) → ds ≡ []
      acquired_hides ds (inl none) = none
      acquired_hides ds (inr one) = absurd (let on = one.1 in cc)

  pub refused : {stop : Stop} → IsAcquireStop stop → ((pages : ℕ) → ServesAcquired v w g owner (level - 1) pages (Err stop)) →
      ((pages : ℕ) → Stops v w (of_acquire {A = ℕ} v g owner (level - 1) pages (Err stop)) stop) →
      LeavesAcquired v w g owner (level - 1) (Err stop) → AcquiresBy v w g owner (level - 1) j k (Err stop) →
      DemandTaken v w owner level (Typed g (level_type (level - 1))) j k (Err stop)
  refused {stop} kinds serves stops hand by =
      let within = λ (pages : ℕ). acquiring v w owner level g (Err stop) pages (is_due_stop stop) above (λ on. on) in
      record {
        came = serves_came v w (of_acquire {A = ℕ} v g owner (level - 1) 0 (Err stop)) ((serves 0).hidden ++ missed v.post.machine stop) (serves 0).serves;
        inside = tt;
        serves = λ pages. record {
          hidden = (serves pages).hidden;
          may = unacquired_hides v w owner level g stop (serves pages).hidden (serves pages).may;
          serves = serves_within v w (of_acquire {A = ℕ} v g owner (level - 1) pages (Err stop)) (of_demand (Typed g (level_type (level - 1))) owner pages (is_due_stop stop))
              ((serves pages).hidden ++ missed v.post.machine stop) (within pages) (serves pages).serves;
        };
        stops = λ pages. stops_within v w (of_acquire {A = ℕ} v g owner (level - 1) pages (Err stop)) (of_demand (Typed g (level_type (level - 1))) owner pages (is_due_stop stop)) stop (within pages)
            (stops pages);
        kinds = kinds;
        hand = refused_hand v w owner level g (Typed g (level_type (level - 1))) stop hand;
        course = past_as (λ on. on) (λ xs got. courses.refused w g xs stop above got) (gated_past by);
      }

-- ---- which of both a type is, by the level of the table
pub page_named : {d : Demand} {g level : ℕ} {t : PageType} → d ≡ Typed g t → IsOfLevel level d → level ≡ 1 → d ≡ Typed g Writable
page_named {d} {g} {level} is asks one = is ∙ ap (λ k. Typed g k) (subst (λ e. IsOfLevel level e) is asks ∙ ap (λ l. below (level_type l)) one)

pub table_named : {d : Demand} {g level : ℕ} {t : PageType} → d ≡ Typed g t → IsOfLevel level d → 1 ≤ level → level ≤ 4 → d ≡ Typed g (level_type (level - 1))
table_named {d} {g} {level} is asks low high = is ∙ ap (λ k. Typed g k) (subst (λ e. IsOfLevel level e) is asks ∙ level_type-under level low high)

pub above_one : {level : ℕ} → 1 ≤ level → level ≢ 1 → 2 ≤ level
above_one low off = omega (arith, low, off)
