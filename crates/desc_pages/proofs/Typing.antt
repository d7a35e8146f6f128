-- The frame of a descriptor is taken as a descriptor page or as ordinary memory: the one or the other.
use Rattle.std.proofs.Common.{◌≡◌, ◌⊎◌, ℕ, ◌++◌, not, if◌then◌else◌, Bool, true, false, List, [], ◌∷◌, Some, Result, Ok, Err, IfErr, refl, sym, ap, subst, inl, inr}
use Rattle.xp_words.specs.PageTypes.{is_table}
use Rattle.xp_words.specs.declared.kind.PageType.{PageType}
use Rattle.xp_words.specs.declared.kind.PageType.TheVariants.{Desc, Writable}
use Rattle.xp_words.specs.declared.place.Place.TheVariants.{Kind}
use Rattle.xp_words.specs.declared.reply.Stop.{Stop}
use Rattle.xp_words.specs.declared.reply.Stop.TheVariants.{Refused, Paused}
use Rattle.xp_board.specs.Hands.{typed_to}
use Rattle.xp_board.specs.Lists.{times_by}
use Rattle.xp_board.specs.Readings.{domain_of, is_live_as}
use Rattle.xp_board.specs.Told.{PortValue}
use Rattle.xp_board.proofs.Sums.{when_eq}
use Rattle.step_maker.specs.Moves.{Came, Met}
use Rattle.step_maker.specs.Answers.{Deed, Misses, Serves, Stops, misses}
use Rattle.step_maker.specs.Asked.{Request, Within, named, of_frame, of_table}
use Rattle.step_maker.proofs.Piecing.{serves_within, stops_within, within_frame}
use Rattle.writable_pages.specs.Pages.{HidesMark, IsPageStop, LeavesPage, ServesPage, TookPage, of_page}
use Rattle.desc_pages.specs.Descriptors.{IsDescriptorType, LeavesAs, TakesAs, as_desc, as_memory, descriptor_type}
use Rattle.desc_pages.specs.Names.{own_domain}
use Rattle.desc_pages.specs.Pages.{IsTakenStop, LeavesTaken, TakesDesc}
use Rattle.desc_pages.proofs.Taking.{type_kind}

-- ---- which types there are
type_by : (b : Bool) → IsDescriptorType (if b then Desc else Writable)
type_by true = inl refl
type_by false = inr refl

pub one_type : (found : ℕ) → IsDescriptorType (descriptor_type found)
one_type found = type_by (is_live_as Desc found)

pub memory_type : (want : PageType) → IsDescriptorType want → (want ≡ Desc → ⊥) → want ≡ Writable
memory_type want (inl is) off = absurd (off is)
memory_type want (inr is) off = is

pub no_table : (want : PageType) → IsDescriptorType want → is_table want ≡ false
no_table want (inl is) = rw is refl
no_table want (inr is) = rw is refl

-- no typed reference is in hand
pub none_typed : (v : PortValue) (f : ℕ) → v.holdings.typed ≡ [] → typed_to f v.holdings.typed ≡ 0
unfolding times_by
none_typed v f none = ap (λ ts. typed_to f ts) none

-- ---- as a descriptor page
desc_leaves : (v w : PortValue) (f owner : ℕ) (answer : Result (Unit {0}) Stop) → LeavesTaken v w f owner answer → LeavesAs v w f owner Desc answer
desc_leaves v w f owner (Ok done) a = a
desc_leaves v w f owner (Err e) a = a

pub desc_as : (v w : PortValue) (f owner : ℕ) (want : PageType) (answer : Result (Unit {0}) Stop) → want ≡ Desc → TakesDesc v w f owner answer → TakesAs v w f owner want answer
desc_as v w f owner want answer is t =
    subst (λ k. TakesAs v w f owner k answer) (sym is)
    (record { came = t.came; serves = t.serves; stops = t.stops; kinds = t.kinds; hand = desc_leaves v w f owner answer t.hand; course = as_desc w answer t.course })

-- ---- as ordinary memory, of the own domain
module _ (v w : PortValue) (f owner : ℕ) (own : owner ≡ own_domain v) where
  abbrev r : Request
  r = of_table f owner (Some Writable) owner false

  page_is : of_page v f owner ≡ of_frame f owner (Some Writable)
  page_is = ap (λ b. record (of_frame f owner (Some Writable)) { locks = not b }) (when_eq owner (domain_of v.post.machine v.post.vcpu) own)

  memory_within : Within v.post.machine v.post.vcpu (of_frame f owner (Some Writable)) (Met v w) r (Met v w)
  memory_within = within_frame v.post.machine v.post.vcpu f owner (Some Writable) r (Met v w) (Met v w) (λ m x. x) (named (when_eq f f refl) refl refl)

  none_hidden : (answer : Result (Unit {0}) Stop) (ds : List Deed) → (ds ≡ []) ⊎ (HidesMark v owner answer × (ds ≡ Misses (Kind f) ∷ [])) → ds ≡ []
  none_hidden answer ds (inl a) = a
  none_hidden (Ok done) ds (inr a) = absurd a.0
  none_hidden (Err (Refused x)) ds (inr a) = absurd a.0
  none_hidden (Err (Paused x)) ds (inr a) = absurd (a.0 own)

  memory_serves : (answer : Result (Unit {0}) Stop) → ServesPage v w f owner answer → Serves v w r (misses v.post.machine answer)
  memory_serves answer s =
      serves_within v w (of_frame f owner (Some Writable)) r (misses v.post.machine answer) memory_within
      (subst (λ ds. Serves v w (of_frame f owner (Some Writable)) (ds ++ misses v.post.machine answer)) (none_hidden answer s.hidden s.may) (subst (λ q. Serves v w q (s.hidden ++ misses v.post.machine answer)) page_is s.serves))

  memory_stops : (answer : Result (Unit {0}) Stop) → IfErr answer (λ e. Stops v w (of_page v f owner) e) → IfErr answer (λ e. Stops v w r e)
  memory_stops (Ok done) a = tt
  memory_stops (Err e) a = stops_within v w (of_frame f owner (Some Writable)) r e memory_within (subst (λ q. Stops v w q e) page_is a)

  memory_kinds : (answer : Result (Unit {0}) Stop) → IfErr answer IsPageStop → IfErr answer IsTakenStop
  memory_kinds (Ok done) a = tt
  memory_kinds (Err e) a = type_kind e a

  memory_leaves : (answer : Result (Unit {0}) Stop) → LeavesPage v w f owner answer → LeavesAs v w f owner Writable answer
  memory_leaves (Ok done) a = a
  memory_leaves (Err (Refused x)) a = a
  memory_leaves (Err (Paused x)) (inl a) = a
  memory_leaves (Err (Paused x)) (inr a) = absurd (a.0 own)

  pub memory_as : (want : PageType) (answer : Result (Unit {0}) Stop) → want ≡ Writable → Came v w → ServesPage v w f owner answer → IfErr answer (λ e. Stops v w (of_page v f owner) e) → IfErr answer IsPageStop → LeavesPage v w f owner answer →
      TookPage v f owner w answer → TakesAs v w f owner want answer
  memory_as want answer is came serves stops kinds hand course =
      subst (λ k. TakesAs v w f owner k answer) (sym is)
      (record { came = came; serves = memory_serves answer serves; stops = memory_stops answer stops; kinds = memory_kinds answer kinds; hand = memory_leaves answer hand; course = as_memory w answer course })
