-- The next entry by its steps: which there are, by what became of it.
use Rattle.std.proofs.Common.{◌≡◌, ℕ, ◌+◌, Bool, List, Some, Result, Ok, Err, refl, sym, subst, true, false}
use Rattle.xp_words.specs.Entries.{demand_at}
use Rattle.xp_words.specs.declared.entry.Demand.{Demand}
use Rattle.xp_words.specs.declared.entry.Demand.TheVariants.{Bad, Nothing, Typed, Read}
use Rattle.xp_words.specs.declared.kind.PageType.{PageType}
use Rattle.xp_words.specs.declared.place.Place.TheVariants.{Clock}
use Rattle.xp_words.specs.declared.reply.Stop.{Stop}
use Rattle.xp_words.specs.declared.reply.Stop.TheVariants.{Refused, Paused}
use Rattle.xp_board.specs.declared.step.Act.TheVariants.{Load}
use Rattle.xp_board.specs.declared.step.Mark.TheVariants.{Record}
use Rattle.xp_board.specs.Told.{Post, PortValue}
use Rattle.step_maker.specs.Moves.{Came, Moves}
use Rattle.step_maker.proofs.Coming.{came_post}
use Rattle.step_maker.specs.Visits.{Visit, Does, Only, Then, Nothing as NoVisit}
use Rattle.step_maker.proofs.Visiting.{does_as, does_came, does_nothing, does_one, does_then}
use Rattle.frame_words.specs.Freeing.{PutBy, Puts}
use Rattle.frame_words.specs.Refs.{Gets, GetsBy, TakesFirst}
use Rattle.frame_words.proofs.Getting.{first_had, first_stopped}
use Rattle.frame_types.specs.Found.{TakesFound, TakesOf, TypeBy, saw_kind}
use Rattle.table_words.specs.Entries.{Records, records_at}
use Rattle.table_entries.specs.Between.{SeesEntry, LooksLive, found, outside}
use Rattle.table_entries.specs.Found.{EnteredBy, EntersBy, EntersFound, ReadBy, RefusesBy, TypedBy, saw_cell, LastBy, ResumedBy, ResumesBy, ResumesFound, TypedAgain, other, outside as unreal, settled}
use Rattle.table_entries.specs.declared.entries.Entered.{Entered}
use Rattle.table_entries.specs.declared.entries.Entered.TheVariants.{Opened, Recorded}
use Rattle.table_entries.proofs.Twins.{not_awaited}
use Rattle.table_entries.specs.declared.resuming.Resumed.{Resumed}
use Rattle.xp_words.specs.declared.reply.Pause.TheVariants as pauses
use Rattle.xp_words.specs.declared.reply.Refusal.TheVariants as refusals
use Rattle.xp_board.specs.declared.step.StepKind.TheVariants as kinds
use Rattle.frame_types.specs.declared.taking.Taken.TheVariants as types
use Rattle.table_entries.specs.declared.resuming.Resumed.TheVariants as again

-- what is said of where the port is posted is the same before steps
pub does_before : (v x w : PortValue) (P : Post → List Visit → Type 0) → Came v x → Does x w (P x.post) → Does x w (P v.post)
does_before v x w P came d = subst (λ (q : Post). Does x w (P q)) (came_post v x came) d

-- and behind them
pub does_behind : (v u w : PortValue) (P : List Visit → Type 0) (Q : Post → List Visit → Type 0) → Does v u P → Does u w (Q u.post) → Does v w (Then P (Q v.post))
does_behind v u w P Q a b = does_then v u w P (Q v.post) a (does_before v u w Q (does_came v u P a) b)

-- ---- the look at it
module _ {b v : PortValue} {f i : ℕ} {t : PageType} {word : ℕ} (looks : SeesEntry b v f i t word) where
  pub looked_cell : Does b v (Only (saw_cell f i word))
  looked_cell = does_one b v _ _ _ _ word looks.look

  -- and the rest, by what it asks
  pub enters_by : (owner : ℕ) (d : Demand) → demand_at t i word ≡ d → (w : PortValue) (answer : Result Entered Stop) → Does v w (λ vs. EntersBy v.post f i owner answer word d vs) → EntersFound b w f i t owner answer
  enters_by owner d asks w answer rest =
      does_as b w (Then (Only (saw_cell f i word)) (λ es. EntersBy b.post f i owner answer word (demand_at t i word) es)) (λ vs. EnteredBy b.post f i t owner answer vs) (λ vs steps. (word, steps))
      (does_behind b v w (Only (saw_cell f i word)) (λ q es. EntersBy q f i owner answer word (demand_at t i word) es) looked_cell
      (subst (λ k. Does v w (λ es. EntersBy v.post f i owner answer word k es)) (sym asks) rest))

-- ---- it is recorded
pub does_record : (v w : PortValue) (f upto clock : ℕ) → Moves v w Clock Load kinds.Look (Some (Record f upto)) clock → Does v w (λ vs. Records f upto vs)
does_record v w f upto clock m = does_as v w (Only (records_at f upto clock)) (λ vs. Records f upto vs) (λ vs one. (clock, one)) (does_one v w _ _ _ _ clock m)

pub nothing_recorded : (v w : PortValue) (f i owner word clock : ℕ) → Moves v w Clock Load kinds.Look (Some (Record f (i + 1))) clock → Does v w (λ vs. EntersBy v.post f i owner (Ok Recorded) word Nothing vs)
nothing_recorded v w f i owner word clock m =
    does_as v w (λ rs. Records f (i + 1) rs) (λ vs. EntersBy v.post f i owner (Ok Recorded) word Nothing vs) (λ vs records. (refl, records)) (does_record v w f (i + 1) clock m)

-- ---- it asks what none may
pub bad_stopped : (v : PortValue) (f i owner word : ℕ) → Does v v (λ vs. EntersBy v.post f i owner (Err (Refused (refusals.Reserved f i word))) word Bad vs)
bad_stopped v f i owner word = does_as v v _ (λ vs. EntersBy v.post f i owner (Err (Refused (refusals.Reserved f i word))) word Bad vs) (λ vs none. (refl, none)) (does_nothing v)

-- ---- an entry that asks a reference alone
pub read_recorded : (v x w : PortValue) (g owner f i k clock : ℕ) → Gets {A = ℕ} v x g owner (Ok k) → Moves x w Clock Load kinds.Look (Some (Record f (i + 1))) clock → Does v w (λ vs. ReadBy v.post.machine g owner f i (Ok Recorded) vs)
read_recorded v x w g owner f i k clock got m = does_then v x w (λ gs. GetsBy {A = ℕ} v.post.machine g owner (Ok g) gs) (λ rs. Records f (i + 1) rs) got (does_record x w f (i + 1) clock m)

-- ---- behind the reference: the type
-- it is not to be had, and the reference was given back
pub refuses : (x y z : PortValue) (g owner : ℕ) (t : PageType) (e : Stop) → TakesFound x y g owner t (Err e) → Puts y z g → Does x z (λ vs. RefusesBy x.post g owner t e vs)
refuses x y z g owner t e stops puts = does_then x y z (λ ts. TypeBy x.post g owner t (Err e) ts) (PutBy g) stops puts

-- (it waits for no flush then)
refused_typed : (q : Post) (g owner : ℕ) (t : PageType) (f i : ℕ) (e : Stop) (vs : List Visit) → RefusesBy q g owner t e vs → TypedBy q g owner t f i (Err e) vs
refused_typed q g owner t f i (Refused (refusals.Clock x)) vs a = absurd (not_awaited g t _ _ (Refused (refusals.Clock x)) a.first.1 tt)
refused_typed q g owner t f i (Paused (pauses.Flush u stamp x)) vs a = absurd (not_awaited g t _ _ (Paused (pauses.Flush u stamp x)) a.first.1 tt)
refused_typed q g owner t f i (Refused _) vs a = a
refused_typed q g owner t f i (Paused _) vs a = a

pub typed_stopped : (x y z : PortValue) (g owner : ℕ) (t : PageType) (f i : ℕ) (e : Stop) → TakesFound x y g owner t (Err e) → Puts y z g → Does x z (λ vs. TypedBy x.post g owner t f i (Err e) vs)
typed_stopped x y z g owner t f i e stops puts =
    does_as x z (λ vs. RefusesBy x.post g owner t e vs) (λ vs. TypedBy x.post g owner t f i (Err e) vs) (λ vs a. refused_typed x.post g owner t f i e vs a) (refuses x y z g owner t e stops puts)

pub typed_recorded : (x y w : PortValue) (g owner : ℕ) (t : PageType) (f i clock : ℕ) → TakesFound x y g owner t (Ok types.Counted) → Moves y w Clock Load kinds.Look (Some (Record f (i + 1))) clock → Does x w (λ vs. TypedBy x.post g owner t f i (Ok Recorded) vs)
typed_recorded x y w g owner t f i clock takes m = does_then x y w (λ ts. TakesOf x.post g owner t types.Counted ts) (λ rs. Records f (i + 1) rs) takes (does_record y w f (i + 1) clock m)

pub typed_opened : (x y : PortValue) (g owner : ℕ) (t : PageType) (f i progress : ℕ) (own : Bool) → TakesFound x y g owner t (Ok (types.InWork progress own)) → Does x y (λ vs. TypedBy x.post g owner t f i (Ok (Opened g progress own)) vs)
typed_opened x y g owner t f i progress own takes = does_as x y (λ ts. TakesOf x.post g owner t (types.InWork progress own) ts) (λ vs. TypedBy x.post g owner t f i (Ok (Opened g progress own)) vs) (λ vs taken. (refl, taken)) takes

-- ---- an entry that asks a type
module _ {b v : PortValue} {f i : ℕ} {t : PageType} {word : ℕ} (looks : SeesEntry b v f i t word) {g : ℕ} (owner : ℕ) {want : PageType} (asks : demand_at t i word ≡ Typed g want) where
  pub enters_had : (x w : PortValue) (k : ℕ) (answer : Result Entered Stop) → Gets {A = ℕ} v x g owner (Ok k) → Does x w (λ ts. TypedBy x.post g owner want f i answer ts) → EntersFound b w f i t owner answer
  enters_had x w k answer got rest =
      enters_by looks owner (Typed g want) asks w answer
      (first_had Entered v x g owner (λ ts. TypedBy v.post g owner want f i answer ts) w k answer got
      (does_before v x w (λ q ts. TypedBy q g owner want f i answer ts) (does_came v x (λ gs. GetsBy {A = ℕ} v.post.machine g owner (Ok k) gs) got) rest))

-- ---- The last recorded entry again by its steps: which there are, by what became of it.
abbrev pub AsksNoType : Demand → Type 0
AsksNoType d = (g : ℕ) (want : PageType) → d ≡ Typed g want → ⊥

no_type_by : (q : Post) (owner : ℕ) (d : Demand) → AsksNoType d → (vs : List Visit) → NoVisit vs → ResumesBy q owner (Ok again.Settled) d vs
no_type_by q owner Nothing none vs same = (refl, same)
no_type_by q owner Bad none vs same = (refl, same)
no_type_by q owner (Read g) none vs same = (refl, same)
no_type_by q owner (Typed g t) none vs same = absurd (none g t refl)

module _ {b u : PortValue} {f i : ℕ} {t : PageType} {word : ℕ} (looks : SeesEntry b u f i t word) (owner : ℕ) where
  -- the look at the entry, and the rest by what it asks
  resumes_by : (d : Demand) → demand_at t i word ≡ d → (w : PortValue) (answer : Result Resumed Stop) → Does u w (λ vs. ResumesBy u.post owner answer d vs) → ResumesFound b w f i t owner answer
  resumes_by d asks w answer rest =
      does_as b w (Then (Only (saw_cell f i word)) (λ rs. ResumesBy b.post owner answer (demand_at t i word) rs)) (λ vs. ResumedBy b.post f i t owner answer vs) (λ vs steps. (word, steps))
      (does_behind b u w (Only (saw_cell f i word)) (λ q rs. ResumesBy q owner answer (demand_at t i word) rs) (looked_cell looks)
      (subst (λ k. Does u w (λ rs. ResumesBy u.post owner answer k rs)) (sym asks) rest))

  -- it asks no type
  pub standing_found : AsksNoType (demand_at t i word) → ResumesFound b u f i t owner (Ok again.Settled)
  standing_found none =
      resumes_by (demand_at t i word) refl u (Ok again.Settled)
      (does_as u u _ (λ vs. ResumesBy u.post owner (Ok again.Settled) (demand_at t i word) vs) (λ vs same. no_type_by u.post owner (demand_at t i word) none vs same) (does_nothing u))

  module _ (g : ℕ) (want : PageType) (asks : demand_at t i word ≡ Typed g want) (v : PortValue) where
    -- its frame is live
    live_by : LooksLive u v g true → Does u v (λ vs. LastBy u.post g want owner (Ok again.Settled) vs)
    live_by (found x _ inside m same is) = does_as u v (Only (saw_kind g x)) (λ vs. LastBy u.post g want owner (Ok again.Settled) vs) (λ vs one. settled x inside is refl one) (does_one u v _ _ _ _ x m)

    pub live_found : LooksLive u v g true → ResumesFound b v f i t owner (Ok again.Settled)
    live_found is = resumes_by (Typed g want) asks v (Ok again.Settled) (live_by is)

    -- or it is not, and is taken again
    module _ (w : PortValue) (answer : Result Resumed Stop) where
      other_by : LooksLive u v g false → Does v w (λ vs. TakesFirst v.post.machine g owner (λ ts. TypedAgain v.post g owner want answer ts) answer vs) → Does u w (λ vs. LastBy u.post g want owner answer vs)
      other_by (outside past is) rest =
          does_as u w (λ vs. TakesFirst u.post.machine g owner (λ ts. TypedAgain u.post g owner want answer ts) answer vs) (λ vs. LastBy u.post g want owner answer vs) (λ vs first. unreal past first)
          (subst (λ (q : PortValue). Does q w (λ vs. TakesFirst q.post.machine g owner (λ ts. TypedAgain q.post g owner want answer ts) answer vs)) is rest)
      other_by (found x _ inside m same is) rest =
          does_as u w (Then (Only (saw_kind g x)) (λ gs. TakesFirst u.post.machine g owner (λ ts. TypedAgain u.post g owner want answer ts) answer gs)) (λ vs. LastBy u.post g want owner answer vs)
          (λ vs steps. other x inside is steps)
          (does_behind u v w (Only (saw_kind g x)) (λ q gs. TakesFirst q.machine g owner (λ ts. TypedAgain q g owner want answer ts) answer gs) (does_one u v _ _ _ _ x m) rest)

    module _ (off : LooksLive u v g false) where
      -- no reference is to be had
      pub unreferred_found : (x : PortValue) (e : Stop) → Gets {A = ℕ} v x g owner (Err e) → ResumesFound b x f i t owner (Err e)
      unreferred_found x e got =
          resumes_by (Typed g want) asks x (Err e) (other_by x (Err e) off (first_stopped Resumed v x g owner (λ ts. TypedAgain v.post g owner want (Err e) ts) e got))

      -- or it is
      pub resumes_had : (x w : PortValue) (k : ℕ) (answer : Result Resumed Stop) → Gets {A = ℕ} v x g owner (Ok k) → Does x w (λ vs. TypedAgain x.post g owner want answer vs) → ResumesFound b w f i t owner answer
      resumes_had x w k answer got rest =
          resumes_by (Typed g want) asks w answer
          (other_by w answer off
          (first_had Resumed v x g owner (λ ts. TypedAgain v.post g owner want answer ts) w k answer got
          (does_before v x w (λ q ts. TypedAgain q g owner want answer ts) (does_came v x (λ gs. GetsBy {A = ℕ} v.post.machine g owner (Ok k) gs) got) rest)))

      -- and the type is not: the reference was given back
      pub untaken_found : (x y z : PortValue) (k : ℕ) (e : Stop) → Gets {A = ℕ} v x g owner (Ok k) → TakesFound x y g owner want (Err e) → Puts y z g → ResumesFound b z f i t owner (Err e)
      untaken_found x y z k e got stops puts = resumes_had x z k (Err e) got (refuses x y z g owner want e stops puts)
