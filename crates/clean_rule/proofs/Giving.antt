-- A frame is given clean.
use Rattle.std.proofs.Common.{◌≡◌, ℕ, ◌<◌, ◌==◌, if◌then◌else◌, Bool, true, false, List, [], ◌∷◌, Option, Some, None, refl, sym, ◌∙◌, subst, arith, inl, inr}
use Rattle.std.proofs.lemmas.Bool.{cases_eq}
use Rattle.xp_words.specs.Machine.{Machine}
use Rattle.xp_words.specs.Places.{sizes_of}
use Rattle.xp_words.specs.RefWords.{ref_read}
use Rattle.xp_words.specs.declared.entry.Demand.{Demand}
use Rattle.xp_words.specs.declared.entry.Demand.TheVariants.{Nothing, Bad, Read, Typed}
use Rattle.xp_words.specs.declared.place.Place.{Place}
use Rattle.xp_words.specs.declared.place.Place.TheVariants.{Refs, Cell}
use Rattle.xp_words.proofs.Shared.{eq_false as when_ne}
use Rattle.xp_board.specs.declared.holdings.Claimed.{Claimed}
use Rattle.xp_board.specs.declared.holdings.Holdings.{Holdings}
use Rattle.xp_board.specs.declared.holdings.Work.{Work}
use Rattle.xp_board.specs.declared.step.Act.TheVariants.{Store}
use Rattle.xp_board.specs.declared.step.Mark.{Mark}
use Rattle.xp_board.specs.declared.step.Mark.TheVariants as marks
use Rattle.xp_board.specs.declared.step.Step.{Step}
use Rattle.xp_board.specs.declared.step.StepKind.{StepKind}
use Rattle.xp_board.specs.declared.step.StepKind.TheVariants as steps
use Rattle.xp_board.specs.Found.{ClaimFound}
use Rattle.xp_board.specs.Hands.{claim_of, claims_of, work_on}
use Rattle.xp_board.specs.Legal.{Legal, LegalAs}
use Rattle.xp_board.specs.Lists.{EachOf, first_by, one_at, times_by}
use Rattle.xp_board.specs.Marks.{after_mark, demand_seen, recorded, shed}
use Rattle.xp_board.specs.Reach.{Path, Reach, Use}
use Rattle.xp_board.specs.Readings.{domain_of, ref_count}
use Rattle.xp_board.specs.RefSteps.{AllowsRefStore, MayGive}
use Rattle.xp_board.specs.Settling.{demand_in, demand_out}
use Rattle.xp_board.specs.Sound.{Sound}
use Rattle.xp_board.proofs.Sums.{when_eq}
use Rattle.xp_board.proofs.Works.{dying_in_hand}
use Rattle.clean_rule.specs.Clean.{GivesFrame, IsClean}
use Rattle.clean_rule.proofs.Paths.{path_counted}

-- ---- a mark leaves the claimed frames alone
out_claimed : (d : Demand) (h : Holdings) → (demand_out d h).claimed ≡ h.claimed
out_claimed Nothing h = refl
out_claimed Bad h = refl
out_claimed (Read g) h = refl
out_claimed (Typed g t) h = refl

in_claimed : (sure : Bool) (d : Demand) (h : Holdings) → (demand_in sure d h).claimed ≡ h.claimed
in_claimed sure Nothing h = refl
in_claimed sure Bad h = refl
in_claimed sure (Read g) h = refl
in_claimed sure (Typed g t) h = refl

recorded_claimed : (n : Machine) (f : ℕ) (o : Option Work) (h : Holdings) → (recorded n f o h).claimed ≡ h.claimed
recorded_claimed n f None h = refl
recorded_claimed n f (Some e) h = out_claimed (demand_seen e.recorded e) _

shed_claimed : (n : Machine) (f upto : ℕ) (o : Option Work) (h : Holdings) → (shed n f upto o h).claimed ≡ h.claimed
shed_claimed n f upto None h = refl
shed_claimed n f upto (Some e) h = in_claimed _ (demand_seen upto e) _

mark_claimed : (n : Machine) (mark : Option Mark) (h : Holdings) → (after_mark n mark h).claimed ≡ h.claimed
mark_claimed n None h = refl
mark_claimed n (Some (marks.Record f upto)) h = recorded_claimed n f (work_on f h.works) h
mark_claimed n (Some (marks.Shed f upto)) h = shed_claimed n f upto (work_on f h.works) h
mark_claimed n (Some (marks.Forget page)) h = refl
mark_claimed n (Some (marks.Cut call)) h = refl
mark_claimed n (Some marks.Turn) h = refl
mark_claimed n (Some (marks.Walk write)) h = refl

-- ---- only a step of a reference word stores one
ref_store : (n : Machine) (s f new : ℕ) (h : Holdings) (mark : Option Mark) (kind : StepKind) → LegalAs n s h (Refs f) (Store new) mark kind → AllowsRefStore n s f h (ref_read new)
ref_store n s f new h mark steps.Ref legal = legal
ref_store n s f new h mark steps.Look legal = absurd legal
ref_store n s f new h mark steps.Kind legal = absurd legal
ref_store n s f new h mark steps.Cell legal = absurd legal
ref_store n s f new h mark steps.M2p legal = absurd legal
ref_store n s f new h mark steps.Pages legal = absurd legal
ref_store n s f new h mark steps.Context legal = absurd legal
ref_store n s f new h mark steps.Fill legal = absurd legal
ref_store n s f new h mark steps.Guest legal = absurd legal
ref_store n s f new h mark steps.Tick legal = absurd legal
ref_store n s f new h mark steps.Ask legal = absurd legal
ref_store n s f new h mark steps.Ack legal = absurd legal
ref_store n s f new h mark steps.Life legal = absurd legal
ref_store n s f new h mark steps.Run legal = absurd legal
ref_store n s f new h mark steps.Hint legal = absurd legal
ref_store n s f new h mark steps.Touch legal = absurd legal
ref_store n s f new h mark steps.Priv legal = absurd legal

-- ---- a claim in a list
found_claim : (P : Claimed → Type 0) (f : ℕ) (cs : List Claimed) (c : Claimed) → EachOf P cs → claim_of f cs ≡ Some c → P c
unfolding EachOf first_by
found_claim P f [] c each here = absurd (cc)
found_claim P f (x ∷ xs) c each here =
    elim (x.frame == f) as (λ b. (if b then Some x else claim_of f xs) ≡ Some c → P c) [
      | true ↦ λ at. (let is : x ≡ c = cc in subst P is each.0)
      | false ↦ λ off. found_claim P f xs c each.1 off
    ] here

claim_frame : (f : ℕ) (cs : List Claimed) (c : Claimed) → claim_of f cs ≡ Some c → c.frame ≡ f
unfolding first_by
claim_frame f [] c here = absurd (cc)
claim_frame f (x ∷ xs) c here =
    elim (cases_eq x.frame f) [
      | inl at ↦ (let k : Some x ≡ Some c = rw (when_eq x.frame f at) at here in let is : x ≡ c = cc in subst (λ (y : Claimed). y.frame ≡ f) is at)
      | inr off ↦ claim_frame f xs c (rw (when_ne x.frame f off) at here)
    ]

claims_some : (f : ℕ) (cs : List Claimed) (c : Claimed) → claim_of f cs ≡ Some c → 0 < claims_of f cs
unfolding first_by times_by
claims_some f [] c here = absurd (cc)
claims_some f (x ∷ xs) c here =
    elim (cases_eq x.frame f) [
      | inl at ↦ (let one : one_at f x.frame ≡ 1 = rw (when_eq x.frame f at) in omega (arith, one))
      | inr off ↦ (let more = claims_some f xs c (rw (when_ne x.frame f off) at here) in omega (arith, more))
    ]

module _ (n : Machine) (m : Place → ℕ) (h : ℕ → Holdings) (s f d : ℕ) (x : Step) (sound : Sound n m h) (real : s < (sizes_of n).vcpus) (legal : Legal n s (h s) x) (gives : GivesFrame n x f d) where
  stores : LegalAs n s (after_mark n x.mark (h s)) (Refs f) (Store gives.new) x.mark x.kind
  stores = subst (λ a. LegalAs n s (after_mark n x.mark (h s)) (Refs f) a x.mark x.kind) gives.act (subst (λ p. LegalAs n s (after_mark n x.mark (h s)) p x.act x.mark x.kind) gives.place legal.act)

  may : MayGive n s f d gives.allocated gives.count (after_mark n x.mark (h s))
  may = subst (λ o. AllowsRefStore n s f (after_mark n x.mark (h s)) o) gives.owned (ref_store n s f gives.new (after_mark n x.mark (h s)) x.mark x.kind stores)

  here : claim_of f (h s).claimed ≡ Some may.claimed
  here = subst (λ cs. claim_of f cs ≡ Some may.claimed) (mark_claimed n x.mark (h s)) may.here

  found : ClaimFound (sizes_of n) m (domain_of n s) (h s) may.claimed
  found = found_claim (ClaimFound (sizes_of n) m (domain_of n s) (h s)) f (h s).claimed may.claimed (sound.found s real).claims here

  held : 0 < claims_of f (h s).claimed
  held = claims_some f (h s).claimed may.claimed here

  zeros : (i : ℕ) → i < 512 → m (Cell f i) ≡ 0
  zeros i low =
      let all = may.scrubbed in
      subst (λ g. m (Cell g i) ≡ 0) (claim_frame f (h s).claimed may.claimed here) (found.scrubbed i (omega (arith, all, low)))

  unreached : (v : ℕ) (u : Use) → v < (sizes_of n).vcpus → Reach (sizes_of n) m (h v) f u → ⊥
  unreached v u other reach =
      let none = (sound.fresh.each v other f u reach).unclaimed s real in
      let some = held in
      absurd (omega (arith, none, some))

  uncounted : ref_count (m (Refs f)) ≡ 0
  uncounted = dying_in_hand n m h sound.alone f s real (let some = held in omega (arith, some))

  pathless : (v : ℕ) (writable : Bool) → v < (sizes_of n).vcpus → Path (sizes_of n) m v writable f → ⊥
  pathless v writable other path =
      let some = path_counted n m h sound v f writable other path in
      let none = uncounted in
      absurd (omega (arith, some, none))

  pub given_clean : IsClean n m h f
  given_clean =
      record {
        cells = zeros;
        pathless = pathless;
        unreached = unreached;
        unnamed = sym (sound.counts.refs f) ∙ uncounted;
      }

  pub given_own : d ≡ domain_of n s
  given_own = may.own
