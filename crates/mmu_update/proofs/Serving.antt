-- The steps of a write, one call behind the other: what a guest sees of them, and why it stops.
use Rattle.std.proofs.Common.{◌≡◌, ℕ, Bool, true, false, List, [], ◌∷◌, ◌++◌, Option, None, Some, Result, Ok, Err, ◌∙◌, subst, append-nil, inl, inr, ◌⊎◌}
use Rattle.xp_words.specs.declared.kind.PageType.{PageType}
use Rattle.xp_words.specs.declared.kind.PageType.TheVariants.{Writable}
use Rattle.xp_words.specs.declared.place.Place.TheVariants.{Cell, Kind}
use Rattle.xp_words.specs.declared.reply.Stop.{Stop}
use Rattle.xp_board.specs.declared.step.Act.TheVariants.{Store}
use Rattle.xp_board.specs.declared.step.StepKind.TheVariants as kinds
use Rattle.xp_board.specs.Told.{Post, PortValue}
use Rattle.step_maker.specs.Moves.{Came, Met, Moves}
use Rattle.step_maker.proofs.Coming.{came_post, met_after}
use Rattle.step_maker.specs.Answers.{Deed, Misses, Serves, Stops, Writes, missed}
use Rattle.step_maker.specs.Asked.{IsFor, Request, of_back, of_frame}
use Rattle.step_maker.proofs.Later.{IsUncounted, stops_later}
use Rattle.step_maker.proofs.Piecing.{serves_back, serves_came, serves_inner, serves_step, serves_within, stops_before, stops_within}
use Rattle.entry_locks.specs.Locks.{of_lock}
use Rattle.foreign_map.specs.declared.owners.Owners.{Owners}
use Rattle.frame_words.specs.Cells.{IsApart}
use Rattle.writable_pages.specs.Pages.{HidesMark, ServesPage, of_page}
use Rattle.writable_pages.proofs.Shared.{store_deed}
use Rattle.mmu_update.specs.Elements.{ServesUpdate, stopped, stored, update_request}
use Rattle.mmu_update.specs.declared.element.Element.TheVariants.{Write}
use Rattle.entry_exchange.proofs.Taking.{hides_mark, hides_none}
use Rattle.mmu_update.proofs.Asking.{Covers, for_none, names_frame, of_call, within_call, write_covers}

-- of one that is done it sees nothing
shows_nothing : (v : PortValue) (f d : ℕ) (hidden : List Deed) → (hidden ≡ []) ⊎ (HidesMark {A = Unit {0}} v d (Ok tt) × (hidden ≡ Misses (Kind f) ∷ [])) → hidden ++ [] ≡ []
shows_nothing v f d hidden (inl none) = append-nil hidden ∙ none
shows_nothing v f d hidden (inr mark) = absurd mark.0

abbrev pub asks : Owners → ℕ → ℕ → ℕ → Bool → Result (Unit {0}) Stop → Request
asks o f i word keep answer = update_request o (Write f i word keep) answer

-- ---- any request that covers the exchange of an entry
module _ {r : Request} {o : Owners} {f i word : ℕ} {answer : Result (Unit {0}) Stop} (covers : Covers r o f i word answer) where
  -- ---- the first call
  pub referred_serves : (b v : PortValue) (ds : List Deed) → Serves b v (of_frame f o.tables None) ds → Serves b v r ds
  referred_serves b v ds a = serves_within b v (of_frame f o.tables None) r ds (within_call b.post.machine b.post.vcpu covers (Met b v) (Met b v) (λ m x. x) None false (λ k less. for_none k r.want less)) a

  pub referred_stops : (b v : PortValue) (e : Stop) → Stops b v (of_frame f o.tables None) e → Stops b v r e
  referred_stops b v e a = stops_within b v (of_frame f o.tables None) r e (within_call b.post.machine b.post.vcpu covers (Met b v) (Met b v) (λ m x. x) None false (λ k less. for_none k r.want less)) a

  -- ---- one behind it
  module _ (b v : PortValue) (ds : List Deed) (before : Serves b v r ds) where
    came : Came b v
    came = serves_came b v r ds before

    pub behind : (w : PortValue) (want : Option PageType) (marks : Bool) (es : List Deed) → ((k : Option PageType) → IsFor k want → IsFor k r.want) → Serves v w (of_call o f want marks) es → Serves b w r (es ++ ds)
    behind w want marks es is a =
        serves_inner b v w r (of_call o f want marks) ds es
        (within_call b.post.machine b.post.vcpu covers (Met v w) (Met b w) (λ m x. met_after b v w m came x) want marks is) before a

    pub stops_behind : (w : PortValue) (want : Option PageType) (marks : Bool) (e : Stop) → ((k : Option PageType) → IsFor k want → IsFor k r.want) → IsUncounted e → Stops v w (of_call o f want marks) e → Stops b w r e
    stops_behind w want marks e is free a =
        stops_later b v w r (of_call o f want marks) e free
        (within_call b.post.machine b.post.vcpu covers (Met v w) (Met b w) (λ m x. met_after b v w m came x) want marks is) came a

    pub back_behind : (w : PortValue) → Serves v w (of_back f) [] → Serves b w r ds
    back_behind w a = serves_back b v w r ds [] before f (names_frame b.post.machine b.post.vcpu covers (Met b w)) a

  -- ---- the frame is locked, or looked at
  pub locked_serves : (b u v : PortValue) (ds : List Deed) → Serves b u (of_frame f o.tables None) [] → Serves u v (of_lock f o.tables) ds → Serves b v r ds
  locked_serves b u v ds first lock = subst (λ es. Serves b v r es) (append-nil ds) (behind b u [] (referred_serves b u [] first) v None true ds (λ k less. for_none k r.want less) lock)

  -- ---- it cannot be locked, and the reference is given back
  module _ (b u y : PortValue) (first : Serves b u (of_frame f o.tables None) []) (w : PortValue) where
    pub unlocked_by : (e : Stop) → Serves u y (of_lock f o.tables) (missed u.post.machine e) → Serves y w (of_back f) [] → Serves b w r (missed b.post.machine e)
    unlocked_by e lock back =
        let came_u = serves_came b u (of_frame f o.tables None) [] first in
        back_behind b y (missed b.post.machine e)
        (locked_serves b u y (missed b.post.machine e) first (subst (λ (p : Post). Serves u y (of_lock f o.tables) (missed p.machine e)) (came_post b u came_u) lock)) w back

    pub unlocked_stops : (e : Stop) → IsUncounted e → Stops u y (of_lock f o.tables) e → Came y w → Stops b w r e
    unlocked_stops e free a later = stops_before b y w r e (stops_behind b u [] (referred_serves b u [] first) y None true e (λ k less. for_none k r.want less) free a) later

-- ---- a word is not written, as its frame cannot be locked
pub unlocked_serves : (o : Owners) (f i word : ℕ) (keep : Bool) (e : Stop) (b u y : PortValue) → Serves b u (of_frame f o.tables None) [] → (w : PortValue) → Serves u y (of_lock f o.tables) (missed u.post.machine e) →
    Serves y w (of_back f) [] → ServesUpdate b w o (Write f i word keep) (Err e)
unlocked_serves o f i word keep e b u y first w lock back = (missed b.post.machine e, stopped f i word keep e [] (hides_none e), unlocked_by (write_covers o f i word keep (Err e)) b u y first w e lock back)

-- ---- it is not to be had as ordinary memory
module _ (o : Owners) (f i word : ℕ) (keep : Bool) (e : Stop) (b v x : PortValue) (before : Serves b v (asks o f i word keep (Err e)) []) where
  pub untaken_serves : ServesPage {A = Unit {0}} v x f o.tables (Err e) → ServesUpdate b x o (Write f i word keep) (Err e)
  untaken_serves page =
      let r = asks o f i word keep (Err e) in
      let ds = page.hidden ++ missed b.post.machine e in
      let post = came_post b v (serves_came b v r [] before) in (
        ds,
        stopped f i word keep e page.hidden (hides_mark v o.tables f e page.hidden page.may),
        subst (λ es. Serves b x r es) (append-nil ds)
            (behind (write_covers o f i word keep (Err e)) b v [] before x (Some Writable) (of_page v f o.tables).locks ds (λ k less. less)
            (subst (λ (p : Post). Serves v x (of_page v f o.tables) (page.hidden ++ missed p.machine e)) post page.serves)),
      )

  pub untaken_stops : IsUncounted e → Stops v x (of_page v f o.tables) e → Stops b x (asks o f i word keep (Err e)) e
  untaken_stops free a = stops_behind (write_covers o f i word keep (Err e)) b v [] before x (Some Writable) (of_page v f o.tables).locks e (λ k less. less) free a

-- ---- it is, and the word stored
pub stored_serves : (o : Owners) (f i word : ℕ) (keep : Bool) (b v x y z : PortValue) (found : ℕ) → Serves b v (asks o f i word keep (Ok tt)) [] → ServesPage {A = Unit {0}} v x f o.tables (Ok tt) → IsApart f x.holdings →
    Moves x y (Cell f i) (Store word) kinds.Cell None found → Serves y z (of_back f) [] → ServesUpdate b z o (Write f i word keep) (Ok tt)
stored_serves o f i word keep b v x y z found before page apart made drops =
    let r = asks o f i word keep (Ok tt) in
    let taken = subst (λ es. Serves v x (of_page v f o.tables) es) (shows_nothing v f o.tables page.hidden page.may) page.serves in
    let had : Serves b x r [] = behind (write_covers o f i word keep (Ok tt)) b v [] before x (Some Writable) (of_page v f o.tables).locks [] (λ k less. less) taken in
    let done = serves_step b x y r [] (Cell f i) (Store word) kinds.Cell None found had made (names_frame b.post.machine b.post.vcpu (write_covers o f i word keep (Ok tt)) (Met b y)) in (
      Writes f i word ∷ [],
      stored f i word keep,
      back_behind (write_covers o f i word keep (Ok tt)) b y (Writes f i word ∷ []) (subst (λ (ds : List Deed). Serves b y r (ds ++ [])) (store_deed f i word found x.holdings apart) done) z drops,
    )
