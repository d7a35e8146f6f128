-- Which cells the steps of an entry look at.
use Rattle.std.proofs.Common.{◌≡◌, ℕ, List, [], ◌∷◌, ◌++◌, Option, Some, None, false, sym, ◌∙◌, subst, inl, inr, refl, append-nil}
use Rattle.xp_words.specs.Machine.{Machine}
use Rattle.xp_words.specs.declared.place.Place.{Place}
use Rattle.xp_words.specs.declared.place.Place.TheVariants.{Cell, Clock, Kind}
use Rattle.xp_board.specs.declared.step.Act.{Act}
use Rattle.xp_board.specs.declared.step.Mark.{Mark}
use Rattle.xp_board.specs.declared.step.StepKind.{StepKind}
use Rattle.xp_board.specs.Lists.{EachOf}
use Rattle.xp_board.specs.Told.{PortValue, Post}
use Rattle.xp_board.proofs.HandLists.{EachOf-map}
use Rattle.step_maker.specs.Moves.{Moment, Met, Moves, Came}
use Rattle.step_maker.proofs.Coming.{moment_of, moves_ran, ran_more, came_post, met_after, met_before, moves_met}
use Rattle.step_maker.specs.Answers.{Deed, Serves, Stops, missed}
use Rattle.step_maker.specs.Asked.{Request, Asked, NoMore, of, of_back, of_frame}
use Rattle.step_maker.specs.Finding.{Finding}
use Rattle.step_maker.specs.Reasons.{HasReason, MayLook}
use Rattle.step_maker.proofs.Piecing.{each_append, same_request, serves_back, serves_call, serves_came, serves_nothing, serves_step, stops_call, within_frame}
use Rattle.table_entries.specs.Asking.{LooksAtEntry, LooksOnly, IsEntryStop, of_entries}
use Rattle.xp_words.specs.declared.kind.PageType.{PageType}
use Rattle.xp_words.specs.declared.reply.Pause.TheVariants.{Busy, Flush, Lost}
use Rattle.xp_words.specs.declared.reply.Stop.{Stop}
use Rattle.xp_words.specs.declared.reply.Stop.TheVariants.{Refused, Paused}
use Rattle.xp_board.specs.declared.step.Act.TheVariants.{Load}
use Rattle.xp_board.specs.declared.step.Mark.TheVariants.{Record}
use Rattle.step_maker.specs.Pauses.{Progress, entry}
use Rattle.step_maker.proofs.Later.{stops_later}
use Rattle.frame_types.specs.Leaving.{ServesType}
use Rattle.frame_types.specs.Taking.{IsTypeStop}
use Rattle.frame_types.proofs.Serving.{type_uncounted}
use Rattle.frame_words.specs.Refs.{IsRefStop}
use Rattle.flush_waits.specs.Waiting.{IsWait}
use Rattle.xp_words.specs.declared.reply.Refusal.TheVariants as refusals
use Rattle.xp_board.specs.declared.step.StepKind.TheVariants as kinds

-- a call that reads no entries, does not walk and writes no cell
pub record LooksAside (r : Request) : Type 0 where
  pub entries : r.entries ≡ false
  pub walks : r.walks ≡ false
  pub index : r.index ≡ None

no_cell : (r : Request) (g j : ℕ) → LooksAside r → MayLook r (Cell g j) → ⊥
no_cell r g j aside (inl a) = let b : false ≡ _ = sym aside.entries ∙ a in cc
no_cell r g j aside (inr (inl a)) = let b : false ≡ _ = sym aside.walks ∙ a in cc
no_cell r g j aside (inr (inr a)) = let b : None ≡ Some a.0 = sym aside.index ∙ a.1 in cc

not_looked : (n : Machine) (s f i : ℕ) (r : Request) (F : Finding) → LooksAside r → (m : Moment) → HasReason n s r F m.place m.act m.found m.hand → LooksAtEntry f i m
not_looked n s f i r F aside m reason load g j at =
    absurd (no_cell r g j aside (subst (λ p. MayLook r p) at (subst (λ a. HasReason n s r F m.place a m.found m.hand) load reason)))

pub looks_then : (v u w : PortValue) (f i : ℕ) → LooksOnly v u f i → LooksOnly u w f i → LooksOnly v w f i
unfolding LooksOnly
looks_then v u w f i a b = (b.0 ++ a.0, ran_more v u w a.0 b.0 a.1 b.1, each_append (LooksAtEntry f i) a.0 b.0 a.2 b.2)

pub looks_aside : (v w : PortValue) (f i : ℕ) (r : Request) (ds : List Deed) → LooksAside r → Serves v w r ds → LooksOnly v w f i
unfolding Serves LooksOnly
looks_aside v w f i r ds aside a = (a.0, a.1.ran, EachOf-map _ _ a.0 (not_looked v.post.machine v.post.vcpu f i r (Met v w) aside) a.1.reasons)

pub looks_step : (v w : PortValue) (f i : ℕ) (p : Place) (a : Act) (kind : StepKind) (mark : Option Mark) (found : ℕ) → Moves v w p a kind mark found →
    ((g j : ℕ) → p ≡ Cell g j → (g ≡ f) × (j ≡ i)) → LooksOnly v w f i
unfolding LooksOnly EachOf moment_of
looks_step v w f i p a kind mark found m at = (moment_of v p a kind mark found ∷ [], moves_ran v w p a kind mark found m, (λ load. at, tt))

-- ---- The steps behind a look at an entry: each call goes on with the piece of the whole.
-- ---- by kind of stop
pub ref_kinds : (e : Stop) → IsRefStop e → IsEntryStop e
ref_kinds (Refused (refusals.NoFrame f)) is = tt
ref_kinds (Refused (refusals.WrongOwner f x)) is = tt
ref_kinds (Refused (refusals.CountFull f x)) is = tt
ref_kinds (Paused (Lost place e x)) is = tt
ref_kinds _ is = absurd is

pub type_kinds : (e : Stop) → IsTypeStop e → IsEntryStop e
type_kinds (Refused (refusals.OtherType f want x)) is = tt
type_kinds (Refused (refusals.Clock x)) is = tt
type_kinds (Paused (Lost place e x)) is = tt
type_kinds (Paused (Busy f x)) is = tt
type_kinds (Paused (Flush v stamp x)) is = tt
type_kinds _ is = absurd is

pub wait_kinds : (e : Stop) → IsWait e → IsTypeStop e
wait_kinds (Refused (refusals.Clock x)) is = tt
wait_kinds (Paused (Flush v stamp x)) is = tt
wait_kinds _ is = absurd is

-- ---- from b to v the steps of an entry so far
pub record Goes (b v : PortValue) (f i owner pages : ℕ) (ds : List Deed) : Type 0 where
  pub serves : Serves b v (of_entries owner pages) ds
  pub looks : LooksOnly b v f i

module _ {b v : PortValue} {f i owner pages : ℕ} {ds : List Deed} (goes : Goes b v f i owner pages ds) where
  pub goes_came : Came b v
  goes_came = serves_came b v (of_entries owner pages) ds goes.serves

  -- a look at another word than a cell
  pub goes_kind : (w : PortValue) (g found : ℕ) → Moves v w (Kind g) Load kinds.Look None found → Goes b w f i owner pages ds
  goes_kind w g found m =
      record {
        serves = serves_step b v w (of_entries owner pages) ds (Kind g) Load kinds.Look None found goes.serves m tt;
        looks = looks_then b v w f i goes.looks (looks_step v w f i (Kind g) Load kinds.Look None found m (λ h j at. absurd (let same = at in cc)));
      }

  pub goes_record : {w : PortValue} {g upto found : ℕ} → Moves v w Clock Load kinds.Look (Some (Record g upto)) found → Goes b w f i owner pages ds
  goes_record {w} {g} {upto} {found} m =
      record {
        serves = serves_step b v w (of_entries owner pages) ds Clock Load kinds.Look (Some (Record g upto)) found goes.serves m tt;
        looks = looks_then b v w f i goes.looks (looks_step v w f i Clock Load kinds.Look (Some (Record g upto)) found m (λ h j at. absurd (let same = at in cc)));
      }

  pub record_shows : {w : PortValue} {g upto found : ℕ} → Moves v w Clock Load kinds.Look (Some (Record g upto)) found → Progress (Met b w)
  unfolding moment_of
  record_shows {w} {g} {upto} {found} m =
      entry (moment_of v Clock Load kinds.Look (Some (Record g upto)) found) (met_after b v w _ goes_came (moves_met v w Clock Load kinds.Look (Some (Record g upto)) found m)) refl

  -- a call on a frame that is asked so
  module _ (w : PortValue) (g : ℕ) (want : Option PageType) (asks : Asked b.post.machine b.post.vcpu (of_entries owner pages) (Met b v) g owner want) where
    pub goes_call : (es : List Deed) → Serves v w (of_frame g owner want) es → Goes b w f i owner pages (es ++ ds)
    goes_call es a =
        record {
          serves = serves_call b v w (of_entries owner pages) ds es goes.serves g owner want asks (serves_came v w (of_frame g owner want) es a) a;
          looks = looks_then b v w f i goes.looks (looks_aside v w f i (of_frame g owner want) es (record { entries = refl; walks = refl; index = refl }) a);
        }

    pub asks_still : Came v w → Asked b.post.machine b.post.vcpu (of_entries owner pages) (Met b w) g owner want
    asks_still came = (same_request b.post.machine b.post.vcpu (of_entries owner pages) (Met b v) (Met b w) (λ m x. met_before b v w m x came)).asked g owner want asks

    -- why it stops, as a call does that finds no more in hand; and as one does whose stop counts nothing in hand
    pub goes_stops : (e : Stop) → Came v w → NoMore (of_entries owner pages) v.holdings b.holdings → Stops v w (of_frame g owner want) e → Stops b w (of_entries owner pages) e
    goes_stops e came more stops = stops_call b v w (of_entries owner pages) ds [] goes.serves g owner want asks came e more stops

    pub goes_stops_later : (e : Stop) → Came v w → IsTypeStop e → Stops v w (of_frame g owner want) e → Stops b w (of_entries owner pages) e
    goes_stops_later e came is stops =
        stops_later b v w (of_entries owner pages) (of_frame g owner want) e (type_uncounted e is)
        (within_frame b.post.machine b.post.vcpu g owner want (of_entries owner pages) (Met v w) (Met b w) (λ m x. met_after b v w m goes_came x) (asks_still came)) goes_came stops

    pub goes_back : Serves v w (of_back g) [] → Goes b w f i owner pages ds
    goes_back a =
        record {
          serves = serves_back b v w (of_entries owner pages) ds [] goes.serves g (of owner want (asks_still (serves_came v w (of_back g) [] a))) a;
          looks = looks_then b v w f i goes.looks (looks_aside v w f i (of_back g) [] (record { entries = refl; walks = refl; index = refl }) a);
        }

-- what serves the type behind any steps for it
pub left_serves : (v w : PortValue) (g owner : ℕ) (want : PageType) → ServesType v w g want → Serves v w (of_frame g owner (Some want)) []
left_serves v w g owner want a = a v owner [] (serves_nothing v (of_frame g owner (Some want)))

-- ---- the deeds of a stop
pub goes_missed : (b v w : PortValue) (f i owner pages : ℕ) (e : Stop) → Came b v → Goes b w f i owner pages (missed v.post.machine e ++ []) → Goes b w f i owner pages (missed b.post.machine e)
goes_missed b v w f i owner pages e came goes =
    subst (λ (p : Post). Goes b w f i owner pages (missed p.machine e)) (came_post b v came) (subst (Goes b w f i owner pages) (append-nil (missed v.post.machine e)) goes)

pub wait_missed : (b w : PortValue) (f i owner pages : ℕ) (e : Stop) → IsWait e → Goes b w f i owner pages [] → Goes b w f i owner pages (missed b.post.machine e)
wait_missed b w f i owner pages (Refused (refusals.Clock x)) is goes = goes
wait_missed b w f i owner pages (Paused (Flush v stamp x)) is goes = goes
wait_missed b w f i owner pages _ is goes = absurd is
