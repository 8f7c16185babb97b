-- Duties judged one after another.
use Rattle.std.proofs.Common.{◌≡◌, Bool, true, false, List, [], ◌∷◌, ◌++◌, ◌⊎◌, refl, sym, ◌∙◌, inl, inr, ⊎_elim}
use Rattle.basics.specs.Duties.{Duty, duty, AllMet, IsFirstUnmet, AllDecided}

-- the duties `all` are met where `rest` are, and have the first fault that `rest` have
pub record ComesDownTo {F : Type 0} (all rest : List (Duty F)) : Type 0 where
  pub met : AllMet rest → AllMet all
  pub unmet : (f : F) → IsFirstUnmet rest f → IsFirstUnmet all f

pub ComesDownTo-itself : {F : Type 0} (ds : List (Duty F)) → ComesDownTo ds ds
ComesDownTo-itself ds = record { met = λ h. h; unmet = λ f h. h }

-- a duty that is met falls away
pub ComesDownTo-next : {F : Type 0} (all : List (Duty F)) (d : Duty F) (rest : List (Duty F)) → ComesDownTo all (d ∷ rest) → d.Met → ComesDownTo all rest
ComesDownTo-next all d rest c h = record { met = λ r. c.met (h, r); unmet = λ f u. c.unmet f (inr (h, u)) }

-- one that isn't is the first
pub ComesDownTo-stop : {F : Type 0} (all : List (Duty F)) (d : Duty F) (rest : List (Duty F)) → ComesDownTo all (d ∷ rest) → ¬ d.Met → IsFirstUnmet all d.fault
ComesDownTo-stop all d rest c n = c.unmet d.fault (inl (n, refl))

pub AllMet-append : {F : Type 0} (ds es : List (Duty F)) → AllMet ds → AllMet es → AllMet (ds ++ es)
AllMet-append [] es h k = k
AllMet-append (d ∷ ds) es h k = (h.0, AllMet-append ds es h.1 k)

pub IsFirstUnmet-left : {F : Type 0} (ds es : List (Duty F)) (f : F) → IsFirstUnmet ds f → IsFirstUnmet (ds ++ es) f
IsFirstUnmet-left [] es f u = absurd u
IsFirstUnmet-left (d ∷ ds) es f u = ⊎_elim (λ a. inl a) (λ b. inr (b.0, IsFirstUnmet-left ds es f b.1)) u

pub IsFirstUnmet-right : {F : Type 0} (ds es : List (Duty F)) (f : F) → AllMet ds → IsFirstUnmet es f → IsFirstUnmet (ds ++ es) f
IsFirstUnmet-right [] es f h u = u
IsFirstUnmet-right (d ∷ ds) es f h u = inr (h.0, IsFirstUnmet-right ds es f h.1 u)

-- a list of duties that are met falls away
pub ComesDownTo-part : {F : Type 0} (all ds es : List (Duty F)) → ComesDownTo all (ds ++ es) → AllMet ds → ComesDownTo all es
ComesDownTo-part all ds es c h = record { met = λ k. c.met (AllMet-append ds es h k); unmet = λ f u. c.unmet f (IsFirstUnmet-right ds es f h u) }

-- the first that isn't met in such a list is the first of all
pub ComesDownTo-within : {F : Type 0} (all ds es : List (Duty F)) (f : F) → ComesDownTo all (ds ++ es) → IsFirstUnmet ds f → IsFirstUnmet all f
ComesDownTo-within all ds es f c u = c.unmet f (IsFirstUnmet-left ds es f u)

-- duties that are all met have no first that isn't
pub AllMet-no_first : {F : Type 0} (ds : List (Duty F)) (f : F) → AllMet ds → ¬ (IsFirstUnmet ds f)
AllMet-no_first [] f h u = u
AllMet-no_first (d ∷ ds) f h u = ⊎_elim (λ a. a.0 h.0) (λ b. AllMet-no_first ds f h.1 b.1) u

-- parts of a list of duties that are all met
pub AllMet-left : {F : Type 0} (ds es : List (Duty F)) → AllMet (ds ++ es) → AllMet ds
AllMet-left [] es h = tt
AllMet-left (d ∷ ds) es h = (h.0, AllMet-left ds es h.1)

pub AllMet-right : {F : Type 0} (ds es : List (Duty F)) → AllMet (ds ++ es) → AllMet es
AllMet-right [] es h = h
AllMet-right (d ∷ ds) es h = AllMet-right ds es h.1

-- two faults of a first unmet duty are one
pub first_unmet-one : {F : Type 0} (ds : List (Duty F)) (f g : F) → IsFirstUnmet ds f → IsFirstUnmet ds g → f ≡ g
first_unmet-one [] f g u v = absurd u
first_unmet-one (d ∷ ds) f g (inl u) (inl v) = sym u.1 ∙ v.1
first_unmet-one (d ∷ ds) f g (inl u) (inr v) = absurd (u.0 v.0)
first_unmet-one (d ∷ ds) f g (inr u) (inl v) = absurd (v.0 u.0)
first_unmet-one (d ∷ ds) f g (inr u) (inr v) = first_unmet-one ds f g u.1 v.1

-- where each duty is decided, all are met or some fault is that of the first that isn't
pub met_or_first_unmet : {F : Type 0} (ds : List (Duty F)) → AllDecided ds → AllMet ds ⊎ ((f : F) × IsFirstUnmet ds f)
met_or_first_unmet [] h = inl tt
met_or_first_unmet (d ∷ ds) h = ⊎_elim
    (λ m. ⊎_elim (λ all. inl (m, all)) (λ u. inr (u.0, inr (m, u.1))) (met_or_first_unmet ds h.1))
    (λ n. inr (d.fault, inl (n, refl))) h.0

-- a test is passed or isn't
pub duty-decided : {F : Type 0} (fault : F) (passed : Bool) → (duty fault passed).Met ⊎ (¬ (duty fault passed).Met)
duty-decided fault true = inl refl
duty-decided fault false = inr (λ h. let e : false ≡ true = h in cc)

-- parts of a list of duties that are all decided
pub AllDecided-append : {F : Type 0} (ds es : List (Duty F)) → AllDecided ds → AllDecided es → AllDecided (ds ++ es)
AllDecided-append [] es h k = k
AllDecided-append (d ∷ ds) es h k = (h.0, AllDecided-append ds es h.1 k)
