-- Pieces of steps one behind the other, and what they show of an answer.
use Rattle.std.proofs.Common.{◌≡◌, ℕ, List, [], ◌∷◌, ◌++◌, ◌==◌, Option, Some, None, IsTrue, arith, rules, inl, inr, refl, sym, ap, ◌∙◌, subst, append_assoc, append-nil}
use Rattle.xp_words.specs.Machine.{Machine}
use Rattle.std.proofs.lemmas.Bool.Decides.{nat_tests}
use Rattle.xp_words.specs.declared.place.Place.{Place}
use Rattle.xp_words.specs.declared.entry.Demand.{Demand}
use Rattle.xp_words.specs.declared.entry.Demand.TheVariants as demands
use Rattle.xp_words.specs.Entries.{demand_at}
use Rattle.xp_words.specs.KindWords.{kind_fields}
use Rattle.xp_words.specs.declared.kind.PageType.{PageType}
use Rattle.xp_words.specs.declared.reply.Stop.{Stop}
use Rattle.xp_board.specs.declared.step.Act.{Act}
use Rattle.xp_board.specs.declared.step.Mark.{Mark}
use Rattle.xp_board.specs.declared.step.StepKind.{StepKind}
use Rattle.xp_board.specs.declared.holdings.Holdings.{Holdings}
use Rattle.xp_board.specs.Lists.{EachOf}
use Rattle.xp_board.specs.Told.{Post, PortValue}
use Rattle.step_maker.specs.Moves.{Moves, Moment, Came, Met}
use Rattle.step_maker.proofs.Coming.{ran_more, came_post, came_trans, moment_of, moves_by, moves_came, moves_ran, met_before, met_after}
use Rattle.step_maker.specs.Answers.{Deed, deeds_by, marked_by, deeds, Serves, Causes, Stops}
use Rattle.step_maker.specs.Asked.{Request, of_frame, IsFor, IsDemandOf, demand_held, named_type, Asked, IsAsked, back, of_back, IsNaming, Within, NoMore, named, demanded, walked, context, entered, of_old, doomed}
use Rattle.step_maker.specs.Finding.{Finding}
use Rattle.step_maker.specs.Reasons.{HasReason}
use Rattle.step_maker.specs.Rising.{Grows, NeedsOwners}
use Rattle.step_maker.proofs.Growing.{has_reason, causes}
use Rattle.step_maker.proofs.Grown.{grown_by, grown_where, grows_self}
use Rattle.xp_board.proofs.HandLists.{EachOf-map}

-- ---- the same request, more found
pub same_request : (n : Machine) (s : ℕ) (r : Request) (F G : Finding) → ((m : Moment) → F m → G m) → Within n s r F r G
same_request n s r F G more =
    grown_by n s r r F G more (grows_self r) (record { owner = refl; pages_of = refl }) (λ f a k b. named a refl b) (λ a f b. b) (λ f a. back a)

pub each_append : {A : Type 0} (P : A → Type 0) (xs ys : List A) → EachOf P xs → EachOf P ys → EachOf P (ys ++ xs)
unfolding EachOf
each_append P xs [] a b = a
each_append P xs (y ∷ ys) a b = (b.0, each_append P xs ys a b.1)

pub deeds_append : (xs ys : List Moment) → deeds (ys ++ xs) ≡ deeds ys ++ deeds xs
deeds_append xs [] = refl
deeds_append xs (y ∷ ys) =
    let d = deeds_by y.place y.act y.kind y.found y.hand in
    ap (λ (ds : List Deed). marked_by y.mark ++ (d ++ ds)) (deeds_append xs ys) ∙ ap (λ (ds : List Deed). marked_by y.mark ++ ds) (sym (append_assoc d (deeds ys) (deeds xs)))
    ∙ sym (append_assoc (marked_by y.mark) (d ++ deeds ys) (deeds xs))

-- ---- pieces
pub serves_came : (v w : PortValue) (r : Request) (ds : List Deed) → Serves v w r ds → Came v w
unfolding Serves Came
serves_came v w r ds a = (a.0, a.1.ran)

pub serves_nothing : (v : PortValue) (r : Request) → Serves v v r []
unfolding Serves EachOf
serves_nothing v r = ([], record { ran = refl; deeds_are = refl; reasons = tt })

-- a piece of a call within another
pub serves_within : (v w : PortValue) (r q : Request) (ds : List Deed) → Within v.post.machine v.post.vcpu r (Met v w) q (Met v w) → Serves v w r ds → Serves v w q ds
unfolding Serves
serves_within v w r q ds within a = (
  a.0,
  record {
    ran = a.1.ran;
    deeds_are = a.1.deeds_are;
    reasons = EachOf-map _ _ a.0 (λ m. has_reason v.post.machine v.post.vcpu r (Met v w) q (Met v w) within m.place m.act m.found m.hand) a.1.reasons;
  },
)

-- one step
pub moves_serves : (v w : PortValue) (r : Request) (p : Place) (a : Act) (kind : StepKind) (mark : Option Mark) (found : ℕ) → Moves v w p a kind mark found →
    HasReason v.post.machine v.post.vcpu r (Met v w) p a found v.holdings → Serves v w r (marked_by mark ++ deeds_by p a kind found v.holdings)
unfolding Serves EachOf moment_of
moves_serves v w r p a kind mark found m reason = (
  moment_of v p a kind mark found ∷ [],
  record { ran = moves_ran v w p a kind mark found m; deeds_are = ap (λ (xs : List Deed). marked_by mark ++ xs) (append-nil (deeds_by p a kind found v.holdings)); reasons = (reason, tt) },
)

-- ---- answers
pub no_more : (r : Request) (h : Holdings) → NoMore r h h
no_more r h f = record { refs = λ a. omega arith; works = λ a. a; typed = λ a. omega arith }

pub stops_before : (v u w : PortValue) (r : Request) (e : Stop) → Stops v u r e → Came u w → Stops v w r e
unfolding Stops
stops_before v u w r e a b =
    causes v.post.machine v.post.vcpu r (Met v u) r (Met v w) (same_request _ _ r (Met v u) (Met v w) (λ k x. met_before v u w k x b)) v.holdings v.holdings (no_more r v.holdings) e a

pub stops_within : (v w : PortValue) (r q : Request) (e : Stop) → Within v.post.machine v.post.vcpu r (Met v w) q (Met v w) → Stops v w r e → Stops v w q e
unfolding Stops
stops_within v w r q e within a = causes v.post.machine v.post.vcpu r (Met v w) q (Met v w) within v.holdings v.holdings (no_more q v.holdings) e a

-- steps, and one more behind them
pub serves_step : (v u w : PortValue) (r : Request) (ds : List Deed) (p : Place) (a : Act) (kind : StepKind) (mark : Option Mark) (found : ℕ) → Serves v u r ds → Moves u w p a kind mark found →
    HasReason v.post.machine v.post.vcpu r (Met v w) p a found u.holdings → Serves v w r (marked_by mark ++ (deeds_by p a kind found u.holdings ++ ds))
unfolding Serves EachOf moment_of
serves_step v u w r ds p a kind mark found before m reason =
    let second : Came u w = moves_came u w p a kind mark found m in
    let n = v.post.machine in
    let s = v.post.vcpu in (
      moment_of u p a kind mark found ∷ before.0,
      record {
        ran = (u, before.1.ran, moves_by u w p a kind mark found m);
        deeds_are = ap (λ (xs : List Deed). marked_by mark ++ (deeds_by p a kind found u.holdings ++ xs)) before.1.deeds_are;
        reasons = (
          reason,
          EachOf-map _ _ before.0 (λ m. has_reason n s r (Met v u) r (Met v w) (same_request n s r (Met v u) (Met v w) (λ k x. met_before v u w k x second)) m.place m.act m.found m.hand) before.1.reasons,
        );
      },
    )

-- steps, and two more behind them, of which the first may have its reason in the second
pub serves_two : (v u x w : PortValue) (r : Request) (ds : List Deed) (p q : Place) (a b : Act) (j k : StepKind) (y z : ℕ) → Serves v u r ds → Moves u x p a j None y → Moves x w q b k None z →
    HasReason v.post.machine v.post.vcpu r (Met v w) p a y u.holdings → HasReason v.post.machine v.post.vcpu r (Met v w) q b z x.holdings →
    Serves v w r (deeds_by q b k z x.holdings ++ (deeds_by p a j y u.holdings ++ ds))
unfolding Serves EachOf moment_of
serves_two v u x w r ds p q a b j k y z before one two why and =
    let second : Came u w = came_trans u x w (moves_came u x p a j None y one) (moves_came x w q b k None z two) in
    let n = v.post.machine in
    let s = v.post.vcpu in (
      moment_of x q b k None z ∷ (moment_of u p a j None y ∷ before.0),
      record {
        ran = (x, (u, before.1.ran, moves_by u x p a j None y one), moves_by x w q b k None z two);
        deeds_are = ap (λ (xs : List Deed). deeds_by q b k z x.holdings ++ (deeds_by p a j y u.holdings ++ xs)) before.1.deeds_are;
        reasons = (
          and,
          (why, EachOf-map _ _ before.0 (λ m. has_reason n s r (Met v u) r (Met v w) (same_request n s r (Met v u) (Met v w) (λ k x. met_before v u w k x second)) m.place m.act m.found m.hand) before.1.reasons),
        );
      },
    )

-- ---- a call on one frame, within another
pub same_frame : (g f : ℕ) → IsTrue (g == f) → g ≡ f
same_frame g f e = grind (arith, nat_tests)

for_less : (a b c : Option PageType) → IsFor a b → IsFor b c → IsFor a c
for_less None b c x y = tt
for_less (Some t) b c x y = subst (λ o. IsFor o c) x y

demand_less : (f : ℕ) (a b : Option PageType) (d : Option Demand) → IsFor a b → IsDemandOf f b d → IsDemandOf f a d
demand_less f a b (Some (demands.Read g)) x y = (y.0, for_less a b None x y.1)
demand_less f a b (Some (demands.Typed g t)) x y = (y.0, for_less a b (Some t) x y.1)
demand_less f a b _ x y = absurd y

pub asked_less : (n : Machine) (s : ℕ) (r : Request) (F : Finding) (f owner : ℕ) (k want : Option PageType) → IsFor k want → Asked n s r F f owner want → Asked n s r F f owner k
asked_less n s r F f owner k want x (named a b c) = named a b (for_less k want r.want x c)
asked_less n s r F f owner k want x (demanded t i w h e a b c) = demanded t i w h e a (demand_less f k want (demand_held t i w h) x b) c
asked_less n s r F f owner k want x (walked t i w y a b c d) = walked t i w y a b c (for_less k want r.want x d)
asked_less n s r F f owner k want x (entered t i w o m a b c d e j l y) = entered t i w o m a b c d e j (demand_less f k want (Some (demand_at o.kind i w)) x l) y
asked_less n s r F f owner k want x (of_old v j w y c a d e i b g o l) = of_old v j w y c a d e i b g o (for_less k want (Some (kind_fields y).kind) x l)
asked_less n s r F f owner k want x (doomed d y a b c e i) = doomed d y a b c e (for_less k want None x i)
asked_less n s r F f owner k want x (context v j w y a b c d e i) = context v j w y a b c d e (for_less k want (named_type j) x i)

-- it looks at no frame that it names, and at no owner
plain_names : (f owner : ℕ) (want : Option PageType) → IsNaming (of_frame f owner want) → ⊥
plain_names f owner want (inl a) = absurd cc
plain_names f owner want (inr (inl a)) = absurd cc
plain_names f owner want (inr (inr a)) = absurd (let b = a.1 in cc)

plain_owners : (f owner : ℕ) (want : Option PageType) → NeedsOwners (of_frame f owner want) → ⊥
plain_owners f owner want (inl a) = absurd cc
plain_owners f owner want (inr (inl a)) = absurd cc
plain_owners f owner want (inr (inr (inl a))) = absurd cc
plain_owners f owner want (inr (inr (inr a))) = absurd (let b = a.1 in cc)

frame_grows : (f owner : ℕ) (want : Option PageType) (r : Request) → Grows (of_frame f owner want) r
frame_grows f owner want r = search rules

pub within_frame : (n : Machine) (s f owner : ℕ) (want : Option PageType) (r : Request) (F G : Finding) → ((m : Moment) → F m → G m) → Asked n s r G f owner want → Within n s (of_frame f owner want) F r G
within_frame n s f owner want r F G more asks =
    grown_where n s (of_frame f owner want) r F G more (frame_grows f owner want r) (λ needs. absurd (plain_owners f owner want needs)) named_so (λ a. absurd (plain_names f owner want a)) (λ g a. absurd cc)
  where
    named_so : (g : ℕ) → IsTrue (g == f) → (k : Option PageType) → IsFor k want → Asked n s r G g owner k
    named_so g is k less = rw (same_frame g f is) (asked_less n s r G f owner k want less asks)

-- a call that gives a frame back which is asked, of whatever owner
pub within_back : (n : Machine) (s f : ℕ) (r : Request) (F G : Finding) → ((m : Moment) → F m → G m) → IsAsked n s r G f → Within n s (of_back f) F r G
within_back n s f r F G more asks =
    grown_where n s (of_back f) r F G more (search rules) (λ needs. absurd (plain_owners 0 0 None needs)) (λ g none. absurd cc) (λ a. absurd (plain_names 0 0 None a)) (λ g is. rw (same_frame g f is) asks)

-- steps, and behind them a call whose request is within this one
pub serves_inner : (v u w : PortValue) (r q : Request) (ds es : List Deed) → Within v.post.machine v.post.vcpu q (Met u w) r (Met v w) → Serves v u r ds → Serves u w q es → Serves v w r (es ++ ds)
unfolding Serves Came
serves_inner v u w r q ds es within a b =
    let n = v.post.machine in
    let s = v.post.vcpu in
    let second : Came u w = (b.0, b.1.ran) in (
      b.0 ++ a.0,
      record {
        ran = ran_more v u w a.0 b.0 a.1.ran b.1.ran;
        deeds_are = deeds_append a.0 b.0 ∙ ap (λ (xs : List Deed). xs ++ deeds a.0) b.1.deeds_are ∙ ap (λ (xs : List Deed). es ++ xs) a.1.deeds_are;
        reasons = each_append _ a.0 b.0
            (EachOf-map _ _ a.0 (λ m. has_reason n s r (Met v u) r (Met v w) (same_request n s r (Met v u) (Met v w) (λ k x. met_before v u w k x second)) m.place m.act m.found m.hand) a.1.reasons)
            (EachOf-map _ _ b.0 (λ m. has_reason n s q (Met u w) r (Met v w) within m.place m.act m.found m.hand)
            (subst (λ (p : Post). EachOf (λ (m : Moment). HasReason p.machine p.vcpu q (Met u w) m.place m.act m.found m.hand) b.0) (came_post v u (a.0, a.1.ran)) b.1.reasons));
      },
    )

pub stops_inner : (v u w : PortValue) (r q : Request) (e : Stop) → Within v.post.machine v.post.vcpu q (Met u w) r (Met v w) → NoMore r u.holdings v.holdings → Came v u → Stops u w q e → Stops v w r e
unfolding Stops
stops_inner v u w r q e within less came stops =
    causes v.post.machine v.post.vcpu q (Met u w) r (Met v w) within u.holdings v.holdings less e
    (subst (λ (p : Post). Causes p.machine p.vcpu u.holdings q (Met u w) e) (came_post v u came) stops)

module _ (v u w : PortValue) (r : Request) (ds es : List Deed) (before : Serves v u r ds) where
  -- the same request goes on
  pub serves_then : Serves u w r es → Serves v w r (es ++ ds)
  serves_then a = serves_inner v u w r r ds es (same_request _ _ r (Met u w) (Met v w) (λ k x. met_after v u w k (serves_came v u r ds before) x)) before a

  -- a call on a frame that is asked so
  module _ (f owner : ℕ) (want : Option PageType) (asks : Asked v.post.machine v.post.vcpu r (Met v u) f owner want) (came : Came u w) where
    inside : Within v.post.machine v.post.vcpu (of_frame f owner want) (Met u w) r (Met v w)
    inside = within_frame _ _ f owner want r (Met u w) (Met v w) (λ k x. met_after v u w k (serves_came v u r ds before) x)
        ((same_request _ _ r (Met v u) (Met v w) (λ k x. met_before v u w k x came)).asked f owner want asks)

    pub serves_call : Serves u w (of_frame f owner want) es → Serves v w r (es ++ ds)
    serves_call a = serves_inner v u w r (of_frame f owner want) ds es inside before a

    pub stops_call : (e : Stop) → NoMore r u.holdings v.holdings → Stops u w (of_frame f owner want) e → Stops v w r e
    stops_call e less stops = stops_inner v u w r (of_frame f owner want) e inside less (serves_came v u r ds before) stops

  -- a call that gives a frame back which is asked
  pub serves_back : (f : ℕ) → IsAsked v.post.machine v.post.vcpu r (Met v w) f → Serves u w (of_back f) es → Serves v w r (es ++ ds)
  serves_back f asks a = serves_inner v u w r (of_back f) ds es (within_back _ _ f r (Met u w) (Met v w) (λ k x. met_after v u w k (serves_came v u r ds before) x) asks) before a

pub ruleset piecing = (serves_came, serves_nothing, serves_then, stops_before)
