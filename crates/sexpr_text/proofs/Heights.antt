-- How many lists are open at each place, and which parentheses belong together.
use Rattle.std.proofs.Common.{◌≡◌, ℕ, zero, suc, ◌+◌, ◌-◌, ◌<◌, ◌≤◌, true, false, List, refl, sym, ◌∙◌, subst, inl, inr, arith, ◌⊎◌}
use Rattle.std.proofs.lemmas.Bool.{true≢false, cases_Bool, cases_lt, cond-true, cond-false, false_from_ne_true}
use Rattle.sexpr_text.specs.Comments.{opens_at, closes_at, NothingWritten}
use Rattle.sexpr_text.specs.Runs.{IsRun}
use Rattle.sexpr_text.specs.Lists.{opened, closed, Matches, IsDeep}
use Rattle.sexpr_text.specs.Scan.{IsOutermost, Heights}
use Rattle.sexpr_text.proofs.Places.{opens_no_closes, opens_written, closes_written, opens_no_run, closes_no_run}

-- what the byte at a place does to the number of open lists
pub data Step (text : List ℕ) (i : ℕ) : Type 0 where
  up : opens_at text i ≡ true → opened text (suc i) ≡ suc (opened text i) → closed text (suc i) ≡ closed text i → Step text i
  down : closes_at text i ≡ true → opened text (suc i) ≡ opened text i → closed text (suc i) ≡ suc (closed text i) → Step text i
  level : opens_at text i ≡ false → closes_at text i ≡ false → opened text (suc i) ≡ opened text i → closed text (suc i) ≡ closed text i → Step text i

opened-true : (text : List ℕ) (i : ℕ) → opens_at text i ≡ true → opened text (suc i) ≡ suc (opened text i)
unfolding opened
opened-true text i e = cond-true (opens_at text i) (suc (opened text i)) (opened text i) e

opened-false : (text : List ℕ) (i : ℕ) → opens_at text i ≡ false → opened text (suc i) ≡ opened text i
unfolding opened
opened-false text i e = cond-false (opens_at text i) (suc (opened text i)) (opened text i) e

closed-true : (text : List ℕ) (i : ℕ) → closes_at text i ≡ true → closed text (suc i) ≡ suc (closed text i)
unfolding closed
closed-true text i e = cond-true (closes_at text i) (suc (closed text i)) (closed text i) e

closed-false : (text : List ℕ) (i : ℕ) → closes_at text i ≡ false → closed text (suc i) ≡ closed text i
unfolding closed
closed-false text i e = cond-false (closes_at text i) (suc (closed text i)) (closed text i) e

pub opened-zero : (text : List ℕ) → opened text 0 ≡ 0
unfolding opened
opened-zero text = refl

pub closed-zero : (text : List ℕ) → closed text 0 ≡ 0
unfolding closed
closed-zero text = refl

pub step_at : (text : List ℕ) (i : ℕ) → Step text i
step_at text i =
    elim (cases_Bool (opens_at text i)) [
      | inl opens ↦ up opens (opened-true text i opens) (closed-false text i (false_from_ne_true _ (opens_no_closes text i opens)))
      | inr no_open ↦ elim (cases_Bool (closes_at text i)) [
        | inl closes ↦ down closes (opened-false text i no_open) (closed-true text i closes)
        | inr no_close ↦ level no_open no_close (opened-false text i no_open) (closed-false text i no_close)
      ]
    ]

pub step_open : (text : List ℕ) (i : ℕ) → opens_at text i ≡ true → (opened text (suc i) ≡ suc (opened text i)) × (closed text (suc i) ≡ closed text i)
step_open text i opens = (opened-true text i opens, closed-false text i (false_from_ne_true _ (opens_no_closes text i opens)))

pub step_close : (text : List ℕ) (i : ℕ) → closes_at text i ≡ true → (opened text (suc i) ≡ opened text i) × (closed text (suc i) ≡ suc (closed text i))
step_close text i closes = (opened-false text i (false_from_ne_true _ (λ opens. opens_no_closes text i opens closes)), closed-true text i closes)

pub step_level : (text : List ℕ) (i : ℕ) → opens_at text i ≡ false → closes_at text i ≡ false → (opened text (suc i) ≡ opened text i) × (closed text (suc i) ≡ closed text i)
step_level text i no_open no_close = (opened-false text i no_open, closed-false text i no_close)

-- no more lists open than there are bytes
pub opened-le : (text : List ℕ) (i : ℕ) → opened text i ≤ i
opened-le text zero = rw (opened-zero text) (omega arith)
opened-le text (suc i) =
    let before = opened-le text i in
    elim (step_at text i) [
      | up _ o c ↦ omega arith
      | down _ o c ↦ omega arith
      | level _ _ o c ↦ omega arith
    ]

-- ---- what belongs together

pub same_last : (text : List ℕ) (first last other : ℕ) → Matches text first last → Matches text first other → last ≡ other
same_last text first last other m n =
    let closes = step_close text last m.closes in
    let closes' = step_close text other n.closes in
    elim (cases_lt last other) [
      | inl lt ↦ let below = n.balanced.never_below (suc last) (omega (arith, m.order)) lt in absurd (omega (arith, m.balanced.even))
      | inr ge ↦ elim (cases_lt other last) [
        | inl lt ↦ let below = m.balanced.never_below (suc other) (omega (arith, n.order)) lt in absurd (omega (arith, n.balanced.even))
        | inr le ↦ omega arith
      ]
    ]

crossed : (text : List ℕ) (first other last : ℕ) → Matches text first last → Matches text other last → first < other → ⊥
crossed text first other last m n lt =
    let opens = step_open text other n.opens in
    let below = m.balanced.never_below other lt (omega (arith, n.order)) in
    omega (arith, m.balanced.even, n.balanced.even)

pub same_first : (text : List ℕ) (first other last : ℕ) → Matches text first last → Matches text other last → first ≡ other
same_first text first other last m n =
    elim (cases_lt first other) [
      | inl lt ↦ absurd (crossed text first other last m n lt)
      | inr ge ↦ elim (cases_lt other first) [
        | inl lt ↦ absurd (crossed text other first last n m lt)
        | inr le ↦ omega arith
      ]
    ]

-- more lists are open at a place than were at an earlier one
abbrev Higher : List ℕ → ℕ → ℕ → Type 0
Higher text first n = opened text first + closed text n < opened text n + closed text first

-- up to a place the list that opens at first stays open, or it is closed before
search_close : (text : List ℕ) (first k : ℕ) → opens_at text first ≡ true → ((n : ℕ) → first < n → n ≤ suc first + k → Higher text first n) ⊎ ((last : ℕ) × (last < suc first + k) × Matches text first last)
search_close text first zero opens =
    inl (λ n low high. let e : n ≡ suc first = omega arith in let step = step_open text first opens in rw e (omega arith))
search_close text first (suc k) opens =
    elim (search_close text first k opens) [
      | inr found ↦ inr (found.0, omega (arith, found.1), found.2)
      | inl stays ↦
          let m = suc first + k in
          let here : Higher text first m = stays m (omega arith) (omega arith) in
          let step = step_open text first opens in
          let next : suc first + suc k ≡ suc m = omega arith in
          elim (step_at text m) [
            | up _ o c ↦ inl (λ n low high. elim (cases_lt n (suc m)) [
              | inl lt ↦ stays n low (omega arith)
              | inr ge ↦ let e : n ≡ suc m = omega arith in rw e (omega arith)
            ])
            | level _ _ o c ↦ inl (λ n low high. elim (cases_lt n (suc m)) [
              | inl lt ↦ stays n low (omega arith)
              | inr ge ↦ let e : n ≡ suc m = omega arith in rw e (omega arith)
            ])
            | down closes o c ↦ elim (cases_lt (opened text first + closed text (suc m)) (opened text (suc m) + closed text first)) [
              | inl more ↦ inl (λ n low high. elim (cases_lt n (suc m)) [
                | inl lt ↦ stays n low (omega arith)
                | inr ge ↦ let e : n ≡ suc m = omega arith in rw e more
              ])
              | inr done ↦ inr (
                m,
                omega arith,
                record {
                  order = omega arith;
                  opens = opens;
                  closes = closes;
                  balanced = record {
                    even = omega arith;
                    never_below = λ n low high. let higher = stays n low high in omega arith;
                  };
                },
              )
            ]
          ]
    ]

-- a list is closed where no more lists are open later than before it
pub closes_again : (text : List ℕ) (first n : ℕ) → opens_at text first ≡ true → first < n → opened text n + closed text first ≤ opened text first + closed text n → (last : ℕ) × (last < n) × Matches text first last
closes_again text first n opens lt done =
    let e : suc first + (n - suc first) ≡ n = omega arith in
    elim (search_close text first (n - suc first) opens) [
      | inr found ↦ (found.0, omega (arith, found.1), found.2)
      | inl stays ↦ let higher = stays n lt (omega arith) in absurd (omega arith)
    ]

-- looking back for the list that the parenthesis at last closes
search_open : (text : List ℕ) (last i : ℕ) → closes_at text last ≡ true → closed text last < opened text last → i ≤ last → ((n : ℕ) → i ≤ n → n ≤ last → opened text last + closed text n ≤ opened text n + closed text last) → (first : ℕ) × Matches text first last
search_open text last zero closes some inside above =
    let start = above 0 (omega arith) (omega arith) in absurd (omega (arith, opened-zero text, closed-zero text))
search_open text last (suc i) closes some inside above =
    let here = above (suc i) (omega arith) inside in
    elim (cases_lt (opened text i + closed text last) (opened text last + closed text i)) [
      | inr ge ↦ search_open text last i closes some (omega arith) (λ n low high. elim (cases_lt i n) [
        | inl lt ↦ above n lt high
        | inr le ↦ let e : n ≡ i = omega arith in rw e ge
      ])
      | inl below ↦ elim (step_at text i) [
        | up opens o c ↦ (
          i,
          record {
            order = inside;
            opens = opens;
            closes = closes;
            balanced = record {
              even = omega arith;
              never_below = λ n low high. let more = above n low high in omega arith;
            };
          },
        )
        | down _ o c ↦ absurd (omega arith)
        | level _ _ o c ↦ absurd (omega arith)
      ]
    ]

-- a parenthesis closes a list where one is open
pub closes_one : (text : List ℕ) (last : ℕ) → closes_at text last ≡ true → closed text last < opened text last → (first : ℕ) × Matches text first last
closes_one text last closes some =
    search_open text last last closes some (omega arith) (λ n low high. let e : n ≡ last = omega arith in rw e (omega arith))

-- ---- the heights that the scan keeps

pub heights_start : (text : List ℕ) (outermost : ℕ) → Heights text 0 0 outermost
heights_start text outermost = record {
  counted = omega (arith, opened-zero text, closed-zero text);
  never_below = λ n high. let e : n ≡ 0 = omega arith in rw e (omega (arith, opened-zero text, closed-zero text));
  shallow = λ place lt. absurd (omega arith);
  outermost = λ some. absurd (omega arith);
}

abbrev NeverBelow : List ℕ → ℕ → Type 0
NeverBelow text at = (n : ℕ) → n ≤ at → closed text n ≤ opened text n

below_next : (text : List ℕ) (at : ℕ) → NeverBelow text at → closed text (suc at) ≤ opened text (suc at) → NeverBelow text (suc at)
below_next text at before here n high =
    elim (cases_lt n (suc at)) [
      | inl lt ↦ before n (omega arith)
      | inr ge ↦ let e : n ≡ suc at = omega arith in rw e here
    ]

stays_next : (text : List ℕ) (at first : ℕ) → IsOutermost text at first → closed text (suc at) < opened text (suc at) → IsOutermost text (suc at) first
stays_next text at first before here = record {
  before = omega (arith, before.before);
  opens = before.opens;
  alone = before.alone;
  stays_open = λ n low high. elim (cases_lt n (suc at)) [
    | inl lt ↦ before.stays_open n low (omega arith)
    | inr ge ↦ let e : n ≡ suc at = omega arith in rw e here
  ];
}

shallow_next : (text : List ℕ) (at : ℕ) → ((place : ℕ) → place < at → IsDeep text place → ⊥) → (IsDeep text at → ⊥) → (place : ℕ) → place < suc at → IsDeep text place → ⊥
shallow_next text at before here place lt deep =
    elim (cases_lt place at) [
      | inl lt ↦ before place lt deep
      | inr ge ↦ let e : place ≡ at = omega arith in here (subst (IsDeep text) e deep)
    ]

pub heights_level : (text : List ℕ) (at depth outermost : ℕ) → Heights text at depth outermost → opens_at text at ≡ false → closes_at text at ≡ false → Heights text (suc at) depth outermost
heights_level text at depth outermost h no_open no_close =
    let step = step_level text at no_open no_close in
    let below = h.never_below at (omega arith) in
    record {
      counted = omega (arith, h.counted);
      never_below = below_next text at h.never_below (omega arith);
      shallow = shallow_next text at h.shallow (λ deep. true≢false (sym deep.opens ∙ no_open));
      outermost = λ some. stays_next text at outermost (h.outermost some) (omega (arith, h.counted));
    }

pub heights_open : (text : List ℕ) (at depth outermost : ℕ) → Heights text at depth outermost → opens_at text at ≡ true → 0 < depth → depth < 64 → Heights text (suc at) (suc depth) outermost
heights_open text at depth outermost h opens some few =
    let step = step_open text at opens in
    let below = h.never_below at (omega arith) in
    record {
      counted = omega (arith, h.counted);
      never_below = below_next text at h.never_below (omega arith);
      shallow = shallow_next text at h.shallow (λ deep. omega (arith, deep.deep, h.counted));
      outermost = λ _. stays_next text at outermost (h.outermost some) (omega (arith, h.counted));
    }

pub heights_first : (text : List ℕ) (at outermost : ℕ) → Heights text at 0 outermost → opens_at text at ≡ true → Heights text (suc at) 1 at
heights_first text at outermost h opens =
    let step = step_open text at opens in
    let below = h.never_below at (omega arith) in
    record {
      counted = omega (arith, h.counted);
      never_below = below_next text at h.never_below (omega arith);
      shallow = shallow_next text at h.shallow (λ deep. omega (arith, deep.deep, h.counted));
      outermost = λ _. record {
        before = omega arith;
        opens = opens;
        alone = omega (arith, h.counted);
        stays_open = λ n low high. let e : n ≡ suc at = omega arith in rw e (omega (arith, h.counted));
      };
    }

pub heights_close : (text : List ℕ) (at depth outermost : ℕ) → Heights text at (suc depth) outermost → closes_at text at ≡ true → Heights text (suc at) depth outermost
heights_close text at depth outermost h closes =
    let step = step_close text at closes in
    record {
      counted = omega (arith, h.counted);
      never_below = below_next text at h.never_below (omega (arith, h.counted));
      shallow = shallow_next text at h.shallow (λ deep. opens_no_closes text at deep.opens closes);
      outermost = λ some. stays_next text at outermost (h.outermost (omega arith)) (omega (arith, h.counted));
    }

-- no parenthesis stands from one place up to another
abbrev pub NoParentheses : List ℕ → ℕ → ℕ → Type 0
NoParentheses text from to = (k : ℕ) → from ≤ k → k < to → (opens_at text k ≡ false) × (closes_at text k ≡ false)

pub nothing_no_parentheses : (text : List ℕ) (from to : ℕ) → NothingWritten text from to → NoParentheses text from to
nothing_no_parentheses text from to nothing k low high = (
  false_from_ne_true _ (λ opens. true≢false (sym (opens_written text k opens) ∙ nothing k low high)),
  false_from_ne_true _ (λ closes. true≢false (sym (closes_written text k closes) ∙ nothing k low high)),
)

pub run_no_parentheses : (text : List ℕ) (at end : ℕ) → IsRun text at end → NoParentheses text at end
run_no_parentheses text at end run k low high = (
  false_from_ne_true _ (λ opens. true≢false (sym (run.each k low high) ∙ opens_no_run text k opens)),
  false_from_ne_true _ (λ closes. true≢false (sym (run.each k low high) ∙ closes_no_run text k closes)),
)

heights_far : (text : List ℕ) (at n depth outer : ℕ) → Heights text at depth outer → NoParentheses text at (at + n) → Heights text (at + n) depth outer
heights_far text at zero depth outer h none = let e : at + 0 ≡ at = omega arith in rw e h
heights_far text at (suc n) depth outer h none =
    let e : at + suc n ≡ suc (at + n) = omega arith in
    let here = none (at + n) (omega arith) (omega arith) in
    rw e (heights_level text (at + n) depth outer (heights_far text at n depth outer h (λ k low high. none k low (omega arith))) here.0 here.1)

pub heights_over : (text : List ℕ) (at end depth outer : ℕ) → Heights text at depth outer → at ≤ end → NoParentheses text at end → Heights text end depth outer
heights_over text at end depth outer h le none =
    let e : at + (end - at) ≡ end = omega arith in
    subst (λ i. Heights text i depth outer) e (heights_far text at (end - at) depth outer h (λ k low high. none k low (omega arith)))

-- from a place on up to another a list is open, and at the end this many are
pub record StaysTo (text : List ℕ) (from at depth : ℕ) : Type 0 where
  pub after : from ≤ at
  pub counted : closed text at + depth ≡ opened text at
  pub some : 0 < depth
  pub stays : (n : ℕ) → from ≤ n → n ≤ at → closed text n < opened text n

pub stays_start : (text : List ℕ) (from depth : ℕ) → closed text from + depth ≡ opened text from → 0 < depth → StaysTo text from from depth
stays_start text from depth counted some = record {
  after = omega arith;
  counted = counted;
  some = some;
  stays = λ n low high. let e : n ≡ from = omega arith in rw e (omega arith);
}

stays_more : (text : List ℕ) (from at depth next : ℕ) → StaysTo text from at depth → closed text (suc at) + next ≡ opened text (suc at) → 0 < next → StaysTo text from (suc at) next
stays_more text from at depth next h counted some = record {
  after = omega (arith, h.after);
  counted = counted;
  some = some;
  stays = λ n low high. elim (cases_lt n (suc at)) [
    | inl lt ↦ h.stays n low (omega arith)
    | inr ge ↦ let e : n ≡ suc at = omega arith in rw e (omega arith)
  ];
}

pub stays_open : (text : List ℕ) (from at depth : ℕ) → StaysTo text from at depth → opens_at text at ≡ true → StaysTo text from (suc at) (suc depth)
stays_open text from at depth h opens =
    let step = step_open text at opens in
    stays_more text from at depth (suc depth) h (omega (arith, h.counted)) (omega arith)

pub stays_close : (text : List ℕ) (from at depth : ℕ) → StaysTo text from at (suc depth) → closes_at text at ≡ true → 0 < depth → StaysTo text from (suc at) depth
stays_close text from at depth h closes some =
    let step = step_close text at closes in
    stays_more text from at (suc depth) depth h (omega (arith, h.counted)) some

stays_far : (text : List ℕ) (from at n depth : ℕ) → StaysTo text from at depth → NoParentheses text at (at + n) → StaysTo text from (at + n) depth
stays_far text from at zero depth h none = let e : at + 0 ≡ at = omega arith in rw e h
stays_far text from at (suc n) depth h none =
    let e : at + suc n ≡ suc (at + n) = omega arith in
    let here = none (at + n) (omega arith) (omega arith) in
    let before = stays_far text from at n depth h (λ k low high. none k low (omega arith)) in
    let step = step_level text (at + n) here.0 here.1 in
    rw e (stays_more text from (at + n) depth depth before (omega (arith, before.counted)) before.some)

pub stays_over : (text : List ℕ) (from at end depth : ℕ) → StaysTo text from at depth → at ≤ end → NoParentheses text at end → StaysTo text from end depth
stays_over text from at end depth h le none =
    let e : at + (end - at) ≡ end = omega arith in
    subst (λ i. StaysTo text from i depth) e (stays_far text from at (end - at) depth h (λ k low high. none k low (omega arith)))
