-- What the words of a line ask for is determined.
use Rattle.std.proofs.Common.{◌≡◌, ◌≢◌, ◌==◌, cond, ℕ, ◌+◌, ◌/◌, ◌%◌, ◌<◌, ◌≤◌, ◌^◌, ℤ, pos, inl, inr, List, [], ◌∷◌, ◌++◌, length, get_or, drop, codes, Bool, IsTrue, ◌↔◌, Option, Some, None, MatchOption, refl, ap, sym, subst, ◌∙◌, arith, lit≤}
use Rattle.std.specs.Fmt.{decimal, signed_decimal}
use Rattle.std.specs.Str.{bytes_eq}
use Rattle.std.proofs.lemmas.Slice.Eq.{bytes_eq-Decides}
use Rattle.std.proofs.lemmas.Int.{ints}
use Rattle.row.specs.Cells.{int}
use Rattle.plan.specs.declared.kinds.Kind.TheVariants as kind
use Rattle.script.specs.Values.{Prints}
use Rattle.script.proofs.Numbers.{read_once}
use Rattle.std.proofs.lemmas.Fmt.{decimal_by_steps, decimal_injective}
use Rattle.script.specs.Commands as script
use Rattle.script.proofs.Reading.{IsApart}
use Rattle.schedule_lines.specs.Asks.{Ask, insert, update, delete, try, want, fence, count, deliver, evict_stage, evict_view, stop, settle, IsSession, Calls, IsCall, IsOrder, IsWant, Asks, session_limit}

-- the first byte of a word
abbrev first_byte : List ℕ → ℕ
first_byte [] = 0
first_byte (b ∷ bs) = b

-- it is below that of all letters
abbrev Low : ℕ → List ℕ → Type 0
Low n word = (0 < length word) × (first_byte word < 58)

low_more : (n : ℕ) (ds : List ℕ) → 10 ≤ n → Low (n / 10) ds → Low n (ds ++ (48 + n % 10) ∷ [])
low_more n [] le h = absurd (omega (arith, h.0))
low_more n (d ∷ ds) le h = (omega arith, h.1)

low_digits : (n : ℕ) → n < 2 ^ 64 → Low n (decimal n)
low_digits n small = decimal_by_steps Low (λ n h. (omega arith, omega arith)) low_more n small

-- the number of a session begins with no letter
pub low_session : (word : List ℕ) (n : ℕ) → IsSession word n → first_byte word < 58
low_session word n is = subst (λ w. first_byte w < 58) is.1 ((low_digits n (omega (arith, is.0))).1)

-- a word that begins with a letter is no number of a session
lettered : (word name : List ℕ) (n : ℕ) → word ≡ name → 58 ≤ first_byte name → ¬ IsSession word n
lettered word name n same high = λ is.
    let low = low_session word n is in
    let at : first_byte word ≡ first_byte name = ap first_byte same in
    absurd (omega arith)

abbrev first_word : List (List ℕ) → List ℕ
first_word [] = []
first_word (w ∷ ws) = w

-- so words that begin with a session's number are no order
pub no_order : (word : List ℕ) (words : List (List ℕ)) (n : ℕ) (ask : Ask) → IsSession word n → ¬ IsOrder (word ∷ words) ask
no_order word words n (insert session table cells) is = λ order. order
no_order word words n (update session table cells) is = λ order. order
no_order word words n (delete session table key) is = λ order. order
no_order word words n (try session view key) is = λ order. order
no_order word words n (want session view key) is = λ order. order
no_order word words n (fence session) is = λ order. order
no_order word words n (count session view) is = λ order. order
no_order word words n (deliver edge) is = λ order. lettered word (codes "deliver") n (ap first_word order) (lit≤ tt) is
no_order word words n (evict_stage key) is = λ order. lettered word (codes "evict") n (ap first_word order) (lit≤ tt) is
no_order word words n (evict_view view key) is = λ order. lettered word (codes "evict") n (ap first_word order) (lit≤ tt) is
no_order word words n (stop domain) is = λ order. lettered word (codes "stop") n (ap first_word order) (lit≤ tt) is
no_order word words n settle is = λ order. lettered word (codes "settle") n (ap first_word order) (lit≤ tt) is

-- a number of a session is one
pub session_once : (word : List ℕ) (m n : ℕ) → IsSession word m → IsSession word n → m ≡ n
session_once word m n a b = decimal_injective m n (omega (arith, a.0)) (omega (arith, b.0)) (a.1 ∙ sym b.1)

-- a number of a session is printed as a number of 64 bits
prints : (word : List ℕ) (n : ℕ) → IsSession word n → Prints word (pos n)
prints word n is = let low : n < 4294967296 = is.0 in (grind (arith, ints), is.1)

session_none : (word : List ℕ) (number : ℤ) → Prints word number → ((n : ℕ) → n < session_limit → number ≢ pos n) → (n : ℕ) → ¬ IsSession word n
session_none word number is never n = λ session.
    let same : int number ≡ int (pos n) = read_once kind.Int word (int number) (int (pos n)) is (prints word n session) in
    never n session.0 (cc)

-- the session's number that a printed number is
pub session_found : (word : List ℕ) (number : ℤ) (found : Option ℕ) → Prints word number → MatchOption found ((n : ℕ) → n < session_limit → number ≢ pos n) (λ n. (n < session_limit) × (number ≡ pos n)) → MatchOption found ((n : ℕ) → ¬ IsSession word n) (λ n. IsSession word n)
session_found word number None is h = session_none word number is h
session_found word number (Some n) is h = (h.0, subst (λ z. signed_decimal z ≡ word) h.1 is.1)

-- what prints no number is the number of no session
pub session_never : (word : List ℕ) → ((n : ℤ) → ¬ Prints word n) → (n : ℕ) → ¬ IsSession word n
session_never word never n = λ is. never (pos n) (prints word n is)

-- words that are no command are no call of a session, but for a want
pub no_call : (n : ℕ) (words : List (List ℕ)) (ask : Ask) → ((a : script.Action) → ¬ script.Asks words a) → ¬ IsWant words → ¬ Calls n words ask
no_call n words (insert session table cells) never bare = λ is. never (script.insert table cells) is.1
no_call n words (update session table cells) never bare = λ is. never (script.update table cells) is.1
no_call n words (delete session table key) never bare = λ is. never (script.delete table key) is.1
no_call n words (try session view key) never bare = λ is. never (script.try view key) is.1
no_call n words (want session view key) never bare = λ is. bare (subst IsWant (sym is.1) refl)
no_call n words (fence session) never bare = λ is. never script.fence is.1
no_call n words (count session view) never bare = λ is. never (script.count view) is.1
no_call n words (deliver edge) never bare = λ is. is
no_call n words (evict_stage key) never bare = λ is. is
no_call n words (evict_view view key) never bare = λ is. is
no_call n words (stop domain) never bare = λ is. is
no_call n words settle never bare = λ is. is

-- three words or more that are no command are no order
pub no_long_order : (words : List (List ℕ)) (ask : Ask) → 3 ≤ length words → ((a : script.Action) → ¬ script.Asks words a) → ¬ IsOrder words ask
no_long_order words (insert session table cells) long never = λ is. is
no_long_order words (update session table cells) long never = λ is. is
no_long_order words (delete session table key) long never = λ is. is
no_long_order words (try session view key) long never = λ is. is
no_long_order words (want session view key) long never = λ is. is
no_long_order words (fence session) long never = λ is. is
no_long_order words (count session view) long never = λ is. is
no_long_order words (deliver edge) long never = λ is. let two : length words ≡ 2 = ap length is in absurd (omega arith)
no_long_order words (evict_stage key) long never = λ is. never (script.evict_stage key) is
no_long_order words (evict_view view key) long never = λ is. never (script.evict_view view key) is
no_long_order words (stop domain) long never = λ is. let two : length words ≡ 2 = ap length is in absurd (omega arith)
no_long_order words settle long never = λ is. let one : length words ≡ 1 = ap length is in absurd (omega arith)

-- words behind a session's number that are no call ask for nothing
pub no_ask : (words rest : List (List ℕ)) (word : List ℕ) (n : ℕ) (ask : Ask) → words ≡ word ∷ rest → IsSession word n → ((other : Ask) → ¬ Calls n rest other) → ¬ Asks words ask
no_ask words rest word n ask is session never = λ asks.
    elim (subst (λ ws. Asks ws ask) is asks) [
      | inl call ↦ never ask (subst (λ m. Calls m rest ask) (session_once word call.0 n call.1 session) call.2)
      | inr order ↦ no_order word rest n ask session order
    ]

-- a list with an element is its first and the rest
pub first_and_rest : {X : Type 0} (xs : List X) (x : X) → 0 < length xs → x ≡ get_or xs 0 x → xs ≡ x ∷ drop 1 xs
first_and_rest [] x some is = absurd (omega arith)
first_and_rest (y ∷ ys) x some is = ap (λ z. z ∷ ys) (sym is)

-- the first word is `want` where its bytes are
pub want_found : (words : List (List ℕ)) (word : List ℕ) (rest : List (List ℕ)) (found : Bool) → words ≡ word ∷ rest → found ≡ bytes_eq word (codes "want") → IsTrue found ↔ IsWant words
want_found words word rest found split test =
    let same = bytes_eq-Decides word (codes "want") in
    (λ yes. subst IsWant (sym split) (same.0 (sym test ∙ yes)), λ is. test ∙ same.1 (subst IsWant split is))

-- ---- words ask for one thing
-- the call that words of some form are
abbrev named : ℕ → ℕ → (x y : List ℕ) → (ys : List (List ℕ)) → Ask
named n b x y ys = cond (b == 105) (insert n x (y ∷ ys)) (cond (b == 117) (update n x (y ∷ ys)) (cond (b == 100) (delete n x y) (cond (b == 116) (try n x y) (want n x y))))

abbrev called : ℕ → List (List ℕ) → Ask
called n [] = fence n
called n (name ∷ []) = fence n
called n (name ∷ x ∷ []) = count n x
called n (name ∷ x ∷ y ∷ ys) = named n (first_byte name) x y ys

calls_called : (n : ℕ) (words : List (List ℕ)) (a : Ask) → Calls n words a → called n words ≡ a
calls_called n words (insert s table []) is = absurd (omega (arith, is.1.1))
calls_called n words (insert s table (cell ∷ cells)) is = ap (called n) is.1.0 ∙ ap (λ m. insert m table (cell ∷ cells)) (sym is.0)
calls_called n words (update s table []) is = absurd (omega (arith, is.1.1))
calls_called n words (update s table (cell ∷ cells)) is = ap (called n) is.1.0 ∙ ap (λ m. update m table (cell ∷ cells)) (sym is.0)
calls_called n words (delete s table key) is = ap (called n) is.1 ∙ ap (λ m. delete m table key) (sym is.0)
calls_called n words (try s view key) is = ap (called n) is.1 ∙ ap (λ m. try m view key) (sym is.0)
calls_called n words (want s view key) is = ap (called n) is.1 ∙ ap (λ m. want m view key) (sym is.0)
calls_called n words (fence s) is = ap (called n) is.1 ∙ ap fence (sym is.0)
calls_called n words (count s view) is = ap (called n) is.1 ∙ ap (λ m. count m view) (sym is.0)
calls_called n words (deliver edge) is = absurd is
calls_called n words (evict_stage key) is = absurd is
calls_called n words (evict_view view key) is = absurd is
calls_called n words (stop domain) is = absurd is
calls_called n words settle is = absurd is

-- the order that words of some form are
abbrev ordered : List (List ℕ) → Ask
ordered [] = settle
ordered (name ∷ []) = settle
ordered (name ∷ x ∷ []) = cond (first_byte name == 100) (deliver x) (stop x)
ordered (name ∷ x ∷ y ∷ []) = evict_stage y
ordered (name ∷ x ∷ y ∷ z ∷ zs) = evict_view y z

orders_ordered : (words : List (List ℕ)) (a : Ask) → IsOrder words a → ordered words ≡ a
orders_ordered words (insert s table cells) is = absurd is
orders_ordered words (update s table cells) is = absurd is
orders_ordered words (delete s table key) is = absurd is
orders_ordered words (try s view key) is = absurd is
orders_ordered words (want s view key) is = absurd is
orders_ordered words (fence s) is = absurd is
orders_ordered words (count s view) is = absurd is
orders_ordered words (deliver edge) is = ap ordered is
orders_ordered words (evict_stage key) is = ap ordered is
orders_ordered words (evict_view view key) is = ap ordered is
orders_ordered words (stop domain) is = ap ordered is
orders_ordered words settle is = ap ordered is

calls_once : (word : List ℕ) (words : List (List ℕ)) (a b : Ask) → IsCall (word ∷ words) a → IsCall (word ∷ words) b → a ≡ b
calls_once word words a b x y =
    let same : x.0 ≡ y.0 = session_once word x.0 y.0 x.1 y.1 in
    sym (calls_called x.0 words a x.2) ∙ (ap (λ n. called n words) same ∙ calls_called y.0 words b y.2)

asks_one : (words : List (List ℕ)) (a b : Ask) → Asks words a → Asks words b → a ≡ b
asks_one [] a b x y = elim x [
  | inl call ↦ absurd call
  | inr order ↦ elim y [ inl call ↦ absurd call | inr other ↦ sym (orders_ordered [] a order) ∙ orders_ordered [] b other ]
]
asks_one (word ∷ words) a b x y = elim x [
  | inl call ↦ elim y [ inl other ↦ calls_once word words a b call other | inr order ↦ absurd (no_order word words call.0 b call.1 order) ]
  | inr order ↦ elim y [
    | inl call ↦ absurd (no_order word words call.0 a call.1 order)
    | inr other ↦ sym (orders_ordered (word ∷ words) a order) ∙ orders_ordered (word ∷ words) b other
  ]
]

-- an order has a first word
order_some : (ask : Ask) → ¬ IsOrder [] ask
order_some (insert s table cells) = λ is. is
order_some (update s table cells) = λ is. is
order_some (delete s table key) = λ is. is
order_some (try s view key) = λ is. is
order_some (want s view key) = λ is. is
order_some (fence s) = λ is. is
order_some (count s view) = λ is. is
order_some (deliver edge) = λ is. cc is
order_some (evict_stage key) = λ is. cc is
order_some (evict_view view key) = λ is. cc is
order_some (stop domain) = λ is. cc is
order_some settle = λ is. cc is

asks_some : (ask : Ask) → ¬ Asks [] ask
asks_some ask = λ asks. elim asks [ inl call ↦ call | inr order ↦ order_some ask order ]

-- words ask for one thing, and none for nothing
pub events : IsApart Asks
events = record { once = asks_one; some = asks_some }
