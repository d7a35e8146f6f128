-- A word of ordinary memory, from before the reference on.
use Rattle.std.proofs.Common.{ℕ, Bool, [], None, Result, Ok, Err, ◌∙◌, inl, inr}
use Rattle.xp_words.specs.declared.kind.PageType.TheVariants.{Writable}
use Rattle.xp_words.specs.declared.place.Place.TheVariants.{Cell}
use Rattle.xp_words.specs.declared.reply.Stop.{Stop}
use Rattle.xp_words.specs.declared.reply.Stop.TheVariants.{Refused, Paused}
use Rattle.xp_board.specs.declared.step.Act.TheVariants.{Store}
use Rattle.xp_board.specs.declared.step.StepKind.TheVariants as kinds
use Rattle.xp_board.specs.Told.{PortValue}
use Rattle.step_maker.specs.Holds.{FlushedHolds, Holds, Same}
use Rattle.step_maker.specs.Moves.{Moves}
use Rattle.step_maker.specs.Answers.{Serves, Stops}
use Rattle.step_maker.specs.Asked.{of_back}
use Rattle.foreign_map.specs.declared.owners.Owners.{Owners}
use Rattle.frame_words.specs.Refs.{took}
use Rattle.frame_types.specs.Taking.{IsTypeStop, gave_type, typed_as}
use Rattle.frame_types.proofs.Serving.{type_uncounted}
use Rattle.table_entries.specs.Acquiring.{GaveType}
use Rattle.writable_pages.specs.Pages.{LeavesPage, ServesPage, TookPage, of_page}
use Rattle.mmu_update.specs.Course as courses
use Rattle.mmu_update.specs.Elements.{LeavesUpdate}
use Rattle.mmu_update.specs.Fits.{Updates}
use Rattle.mmu_update.specs.Writing.{Ordinary}
use Rattle.mmu_update.specs.declared.element.Element.TheVariants.{Write}
use Rattle.mmu_update.proofs.Holding.{apart, given_back, given_to_old, given_up, leaves_rests}
use Rattle.mmu_update.proofs.WriteKinds.{type_kinds}
use Rattle.mmu_update.proofs.Asking.{write_covers}
use Rattle.mmu_update.proofs.Serving.{asks, locked_serves, stored_serves, untaken_serves, untaken_stops}

module _ {b v : PortValue} {o : Owners} {f : ℕ} (a : Ordinary b v o f) where
  -- the reference is in hand still
  pub lent : Holds b v (took f o.tables b.holdings)
  lent = a.same ∙ a.referred.hand

  before : (i word : ℕ) (keep : Bool) (answer : Result (Unit {0}) Stop) → Serves b v (asks o f i word keep answer) []
  before i word keep answer = locked_serves (write_covers o f i word keep answer) b a.at v [] a.referred.serves a.serves

  page_hand : (x : PortValue) (e : Stop) → LeavesPage v x f o.tables (Err e) → LeavesUpdate b x
  page_hand x (Refused r) leaves = given_up b v f o.tables a.referred.begins.rests lent x leaves
  page_hand x (Paused p) (inl leaves) = given_up b v f o.tables a.referred.begins.rests lent x leaves
  page_hand x (Paused p) (inr leaves) = given_to_old b v f o.tables a.referred.begins.rests lent x leaves.1

  module _ {i word : ℕ} {keep : Bool} where
    pub untaken : {x : PortValue} {e : Stop} → ServesPage {A = Unit {0}} v x f o.tables (Err e) → Stops v x (of_page v f o.tables) e → IsTypeStop e → LeavesPage v x f o.tables (Err e) →
        TookPage v f o.tables x (Err e) →
        Updates o (Write f i word keep) b x [] (Err e)
    untaken {x} {e} page why kind leaves taken =
        record {
          serves = untaken_serves o f i word keep e b v x (before i word keep (Err e)) page;
          stops = untaken_stops o f i word keep e b v x (before i word keep (Err e)) (type_uncounted e kind) why;
          kinds = type_kinds e kind;
          numbers = λ y is. absurd cc;
          hand = page_hand x e leaves;
          rests = leaves_rests b x a.referred.begins.rests (page_hand x e leaves);
          course = courses.untaken a.at v x a.found e a.referred.got a.tried taken;
        }

    pub stored : {x y z : PortValue} {found : ℕ} → ServesPage {A = Unit {0}} v x f o.tables (Ok tt) → FlushedHolds v x (typed_as f o.tables Writable v.holdings) → TookPage v f o.tables x (Ok tt) →
        Moves x y (Cell f i) (Store word) kinds.Cell None found → Same x y →
        Serves y z (of_back f) [] → Holds y z (gave_type f y.holdings) → GaveType y z f Writable → Updates o (Write f i word keep) b z [] (Ok tt)
    stored {x} {y} {z} {found} page typed taken made same back gives drops =
        let hand = given_back b v f o.tables a.referred.begins.rests lent x typed y z same gives in
        record {
          serves = stored_serves o f i word keep b v x y z found (before i word keep (Ok tt)) page (apart b v f o.tables a.referred.begins.rests lent x typed) made back;
          stops = tt;
          kinds = tt;
          numbers = λ y is. absurd cc;
          hand = hand;
          rests = leaves_rests b z a.referred.begins.rests hand;
          course = courses.stored a.at v x y z a.found found a.referred.got a.tried taken made drops;
        }
