-- The shortest texts read back, and no text that reads as the same is shorter: each reader in turn eats at least the shortest text of
-- what it reads. Assumes nothing.
use Prim.Native.Nat.{ℕ, suc, ◌+◌, ◌≤◌, min}
use native.Mathlib.Omega.{arith}
use mathlib.Core.Path.{◌≡◌, refl, ap, sym, ◌∙◌, subst, subst₂}
use mathlib.Core.List.{List, [], ◌∷◌, ◌++◌, append_assoc, append-nil}
use mathlib.Core.Option.{Option, none, some}
use lib.ListN.{length, drop, length-append}
use lib.Seq.{drop-drop}
use Rattle.text.specs.Bytes.{byte}
use Rattle.text.specs.Reader.{miss, got, ◌>>=◌, pure, opt, char}
use Rattle.text.specs.Number.{leading_digits, number}
use Rattle.gsv.specs.Gsv.{Satellite, Head, Gsv, closing, counted, cell, entry, head, with_entries, gsv, keep, present}
use Rattle.gsv.proofs.Heads.{made}
use Rattle.short.specs.Digits.{digits_of}
use Rattle.short.specs.Texts.{opt_text, entry_text, entries_text, data_text, Upto, Readable, AllReadable, first_of, body_of}
use Rattle.short.proofs.Digits.{reads-back, number-eats}
use Rattle.text.proofs.Binds.{bind-got, unbind, pure-is, opt-some, opt-none, unopt, char-eats}

-- FORWARDS

no-number : (max : ℕ) (rest : List ℕ) → leading_digits rest ≡ [] → number max rest ≡ miss
unfolding number
no-number max rest e = rw e

opt-back : (max : ℕ) (o : Option ℕ) (rest : List ℕ) → Upto max o → leading_digits rest ≡ [] → opt (number max) (opt_text o ++ rest) ≡ got o rest
opt-back max none rest h e = opt-none (number max) (no-number max rest e)
opt-back max (some n) rest h e = opt-some (number max) (reads-back max n rest h e)

counted-back : (max n : ℕ) (rest : List ℕ) → n ≤ max → counted max (digits_of n ++ byte "," ∷ rest) ≡ got n rest
unfolding counted char pure ◌>>=◌
counted-back max n rest h = bind-got (number max) (λ n. char (byte ",") >>= (λ _. pure n)) _ (reads-back max n (byte "," ∷ rest) h refl)

cell-back : (max : ℕ) (o : Option ℕ) (rest : List ℕ) → Upto max o → cell max (opt_text o ++ byte "," ∷ rest) ≡ got o rest
unfolding cell char pure ◌>>=◌
cell-back max o rest h = bind-got (opt (number max)) (λ n. char (byte ",") >>= (λ _. pure n)) _ (opt-back max o (byte "," ∷ rest) h refl)

-- an entry before a text that closes it
entry-back : (s : Satellite) (rest more : List ℕ) → Readable s → leading_digits rest ≡ [] → closing rest ≡ got tt more → entry (entry_text s ++ rest) ≡ got s more
unfolding entry entry_text pure
entry-back s rest more h d c =
    simp append_assoc
    (bind-got _ _ _ (counted-back 4294967295 s.id _ h.id)
    ∙ bind-got _ _ _ (cell-back 2147483647 s.elevation _ h.elevation)
    ∙ bind-got _ _ _ (cell-back 2147483647 s.azimuth _ h.azimuth)
    ∙ bind-got _ _ _ (opt-back 2147483647 s.signal rest h.signal d)
    ∙ bind-got _ _ _ c)

nothing-back : entry [] ≡ miss
unfolding entry counted number ◌>>=◌
nothing-back = refl

-- the first of some entries, and the text of the others
head-back : (es : List Satellite) → AllReadable es → opt entry (entries_text es) ≡ got (first_of es) (entries_text (drop 1 es))
unfolding closing char
head-back [] h = opt-none entry nothing-back
head-back (s ∷ []) h = opt-some entry (ap entry (sym (append-nil (entry_text s))) ∙ entry-back s [] [] h.0 refl refl)
head-back (s ∷ t ∷ ts) h = opt-some entry (entry-back s (byte "," ∷ entries_text (t ∷ ts)) (entries_text (t ∷ ts)) h.0 refl refl)

readable-drop : (i : ℕ) (es : List Satellite) → AllReadable es → AllReadable (drop i es)
readable-drop ℕ.zero es h = h
readable-drop (suc i) [] h = tt
readable-drop (suc i) (s ∷ es) h = readable-drop i es h.1

next-back : (i : ℕ) (es : List Satellite) → AllReadable es
    → opt entry (entries_text (drop i es)) ≡ got (first_of (drop i es)) (entries_text (drop (i + 1) es))
next-back i es h = head-back (drop i es) (readable-drop i es h) ∙ ap (λ (l : List Satellite). got (first_of (drop i es)) (entries_text l)) (drop-drop 1 i es)

-- THE DATA READS BACK: it has the first four of the entries, and no others
pub gsv-back : (n k v : ℕ) (es : List Satellite) → n ≤ 65535 → k ≤ 65535 → v ≤ 65535 → AllReadable es
    → gsv (data_text n k v es) ≡ got (body_of n k v es) (entries_text (drop 4 es))
unfolding gsv data_text pure
gsv-back n k v es hn hk hv h =
    bind-got head with_entries _
    (bind-got _ _ _ (counted-back 65535 n _ hn) ∙ bind-got _ _ _ (counted-back 65535 k _ hk) ∙ bind-got _ _ _ (counted-back 65535 v _ hv))
    ∙ bind-got _ _ _ (next-back 0 es h)
    ∙ bind-got _ _ _ (next-back 1 es h)
    ∙ bind-got _ _ _ (next-back 2 es h)
    ∙ bind-got _ _ _ (next-back 3 es h)

pub all-present : (n k v : ℕ) (es : List Satellite) → length es ≤ 4 → present (body_of n k v es) ≡ es
all-present n k v [] h = refl
all-present n k v (a ∷ []) h = refl
all-present n k v (a ∷ b ∷ []) h = refl
all-present n k v (a ∷ b ∷ c ∷ []) h = refl
all-present n k v (a ∷ b ∷ c ∷ d ∷ []) h = refl
all-present n k v (a ∷ b ∷ c ∷ d ∷ e ∷ es) h = absurd (omega arith)

-- BACKWARDS: what is read is in its range, and takes at least the bytes of its shortest text

opt-eats : (max : ℕ) (l : List ℕ) {o : Option ℕ} {m : List ℕ} → opt (number max) l ≡ got o m → Upto max o × (length (opt_text o) + length m ≤ length l)
opt-eats max l =
    unopt (number max) l (λ o m. Upto max o × (length (opt_text o) + length m ≤ length l)) (tt, omega arith) (λ n m e. number-eats max l e)

counted-eats : (max : ℕ) (l : List ℕ) {n : ℕ} {m : List ℕ} → counted max l ≡ got n m → (n ≤ max) × (length (digits_of n) + 1 + length m ≤ length l)
unfolding counted
counted-eats max l {n} {m} e =
    let a = unbind (number max) _ l e in
    let b = unbind (char (byte ",")) _ a.between a.then in
    let (x, y) = pure-is b.then in
    let p = number-eats max l a.one in
    let q : a.between ≡ byte "," ∷ b.between = char-eats (byte ",") a.between b.one in
    let r : length a.between ≡ suc (length m) = ap length q ∙ ap (λ (l : List ℕ). suc (length l)) y in
    let s : length (digits_of a.value) ≡ length (digits_of n) = ap (λ (n : ℕ). length (digits_of n)) x in
    (omega arith, omega arith)

cell-eats : (max : ℕ) (l : List ℕ) {o : Option ℕ} {m : List ℕ} → cell max l ≡ got o m → Upto max o × (length (opt_text o) + 1 + length m ≤ length l)
unfolding cell
cell-eats max l {o} {m} e =
    let a = unbind (opt (number max)) _ l e in
    let b = unbind (char (byte ",")) _ a.between a.then in
    let (x, y) = pure-is b.then in
    let p = opt-eats max l a.one in
    let q : a.between ≡ byte "," ∷ b.between = char-eats (byte ",") a.between b.one in
    let r : length a.between ≡ suc (length m) = ap length q ∙ ap (λ (l : List ℕ). suc (length l)) y in
    let s : length (opt_text a.value) ≡ length (opt_text o) = ap (λ (n : Option ℕ). length (opt_text n)) x in
    (rw x at p.0, omega arith)

-- a comma is taken, unless nothing is left
closing-eats : (l : List ℕ) {u : Unit {0}} {m : List ℕ} → closing l ≡ got u m → length m + min 1 (length m) ≤ length l
unfolding closing
closing-eats [] {u} {m} e = let z : [] ≡ m = cc in rw (← z) (omega arith)
closing-eats (b ∷ l) {u} {m} e = let z = ap length (char-eats (byte ",") (b ∷ l) e) in omega arith

pub record Eaten (l : List ℕ) (s : Satellite) (m : List ℕ) : Type 0 where
  pub readable : Readable s
  pub bytes : length (entry_text s) + length m + min 1 (length m) ≤ length l

pub entry-length : (s : Satellite) → length (entry_text s) ≡ 3 + length (digits_of s.id) + length (opt_text s.elevation) + length (opt_text s.azimuth) + length (opt_text s.signal)
unfolding entry_text
entry-length s = simp length-append (omega arith)

pub entry-eats : (l : List ℕ) {s : Satellite} {m : List ℕ} → entry l ≡ got s m → Eaten l s m
unfolding entry
entry-eats l {s} {m} e =
    let a = unbind (counted 4294967295) _ l e in
    let b = unbind (cell 2147483647) _ a.between a.then in
    let c = unbind (cell 2147483647) _ b.between b.then in
    let d = unbind (opt (number 2147483647)) _ c.between c.then in
    let f = unbind closing _ d.between d.then in
    let (x, y) = pure-is f.then in
    let pa = counted-eats 4294967295 l a.one in
    let pb = cell-eats 2147483647 a.between b.one in
    let pc = cell-eats 2147483647 b.between c.one in
    let pd = opt-eats 2147483647 c.between d.one in
    let pf : length f.between + min 1 (length f.between) ≤ length d.between = closing-eats d.between f.one in
    let t : Satellite = record { id = a.value; elevation = b.value; azimuth = c.value; signal = d.value } in
    let r : Eaten l t f.between =
    record { readable = record { id = pa.0; elevation = pb.0; azimuth = pc.0; signal = pd.0 }; bytes = omega (arith, entry-length t) }
    in
    subst₂ (λ s m. Eaten l s m) x y r

-- an entry that may not match, before others whose texts are not longer than what is left
pub head-eats : (l : List ℕ) (es : List Satellite) {o : Option Satellite} {m : List ℕ} → opt entry l ≡ got o m → AllReadable es
    → length (entries_text es) ≤ length m → AllReadable (keep o es) × (length (entries_text (keep o es)) ≤ length l)
head-eats l es e p h =
    unopt entry l (λ o m. AllReadable es → length (entries_text es) ≤ length m → AllReadable (keep o es) × (length (entries_text (keep o es)) ≤ length l))
    (λ p h. (p, h)) (λ s m e p h. let t = entry-eats l e in ((t.readable, p), by s m es t h)) e p h
  where
    by : (s : Satellite) (m : List ℕ) (es : List Satellite) → Eaten l s m → length (entries_text es) ≤ length m → length (entries_text (s ∷ es)) ≤ length l
    by s m [] t h = omega (arith, t.bytes)
    by s m (u ∷ []) t h = simp length-append (omega (arith, t.bytes, entry-length u))
    by s m (u ∷ v ∷ vs) t h = simp length-append (omega (arith, t.bytes, simp length-append at h, entry-length u))

-- THE SHORTEST DATA
pub record Seen (l : List ℕ) (b : Gsv) : Type 0 where
  pub count : b.count ≤ 65535
  pub index : b.index ≤ 65535
  pub view : b.view ≤ 65535
  pub each : AllReadable (present b)
  pub bytes : length (data_text b.count b.index b.view (present b)) ≤ length l

pub data-length : (n k v : ℕ) (es : List Satellite)
    → length (data_text n k v es) ≡ 3 + length (digits_of n) + length (digits_of k) + length (digits_of v) + length (entries_text es)
unfolding data_text
data-length n k v es = simp length-append (omega arith)

-- the numbers in front of the entries
record HeadEaten (l : List ℕ) (h : Head) (m : List ℕ) : Type 0 where
  pub count : h.count ≤ 65535
  pub index : h.index ≤ 65535
  pub view : h.view ≤ 65535
  pub bytes : 3 + length (digits_of h.count) + length (digits_of h.index) + length (digits_of h.view) + length m ≤ length l

three : (a b c l x y z : ℕ) → a + 1 + x ≤ l → b + 1 + y ≤ x → c + 1 + z ≤ y → 3 + a + b + c + z ≤ l
three a b c l x y z h i j = omega arith

numbers-eat : (l : List ℕ) {h : Head} {m : List ℕ} → head l ≡ got h m → HeadEaten l h m
numbers-eat l e =
    let c = unbind (counted 65535) _ l e in
    let i = unbind (counted 65535) _ c.between c.then in
    let v = unbind (counted 65535) _ i.between i.then in
    let (x, y) = pure-is v.then in
    let pc = counted-eats 65535 l c.one in
    let pi = counted-eats 65535 c.between i.one in
    let pv = counted-eats 65535 i.between v.one in
    subst₂ (λ h m. HeadEaten l h m) x y
    (record { count = pc.0; index = pi.0; view = pv.0; bytes = three _ _ _ _ _ _ _ pc.1 pi.1 pv.1 })

-- four entries that may not match, behind a head
record FourRead (h : Head) (l : List ℕ) (r : Gsv) : Type 0 where
  pub a : Option Satellite
  pub b : Option Satellite
  pub c : Option Satellite
  pub d : Option Satellite
  pub is-made : made h a b c d ≡ r
  pub each : AllReadable (keep a (keep b (keep c (keep d []))))
  pub bytes : length (entries_text (keep a (keep b (keep c (keep d []))))) ≤ length l

four-eats : (h : Head) (l : List ℕ) {r : Gsv} {m : List ℕ} → with_entries h l ≡ got r m → FourRead h l r
four-eats h l e =
    let e₁ = unbind (opt entry) _ l e in
    let e₂ = unbind (opt entry) _ e₁.between e₁.then in
    let e₃ = unbind (opt entry) _ e₂.between e₂.then in
    let e₄ = unbind (opt entry) _ e₃.between e₃.then in
    let p₄ = head-eats e₃.between [] e₄.one tt (omega arith) in
    let p₃ = head-eats e₂.between (keep e₄.value []) e₃.one p₄.0 p₄.1 in
    let p₂ = head-eats e₁.between (keep e₃.value (keep e₄.value [])) e₂.one p₃.0 p₃.1 in
    let p₁ = head-eats l (keep e₂.value (keep e₃.value (keep e₄.value []))) e₁.one p₂.0 p₂.1 in
    record {
      a = e₁.value;
      b = e₂.value;
      c = e₃.value;
      d = e₄.value;
      is-made = (pure-is e₄.then).0;
      each = p₁.0;
      bytes = p₁.1;
    }

-- NO DATA THAT READS AS THE SAME IS SHORTER
pub gsv-eats : (l : List ℕ) {b : Gsv} {m : List ℕ} → gsv l ≡ got b m → Seen l b
unfolding gsv
gsv-eats l {b} {m} e =
    let h = unbind head with_entries l e in
    let p = numbers-eat l h.one in
    let f = four-eats h.value h.between h.then in
    let r : Seen l (made h.value f.a f.b f.c f.d) =
    record {
      count = p.count;
      index = p.index;
      view = p.view;
      each = f.each;
      bytes = rw data-length (omega (arith, p.bytes, f.bytes));
    }
    in
    subst (λ b. Seen l b) f.is-made r
