-- Without blocks fetched once, places are offsets: the published exit set then has exactly the offsets at which runs end.
use mathlib.Core.Path.{◌≡◌, refl, ◌∙◌, ap, subst}
use mathlib.Core.Bool.{Bool, true, false}
use mathlib.Core.Option.{none}
use mathlib.Core.List.{List}
use lib.ListN.{get_or}
use native.Mathlib.Nat.{mod-lt, mod-eq_of_lt, div-eq_of_lt, zero-mul, zero-add}
use native.Mathlib.Omega.{arith}
use Prim.Native.Nat.{ℕ, zero, suc, ◌+◌, ◌%◌, ◌<◌}
use Rattle.runs.specs.Clock.{Places, State, on, offsets, with_lines, tick, pass, Access, start, hold}
use Rattle.runs.specs.Nodes.{Node, All, node_lines}
use Rattle.runs.specs.Runs.{Task, places_of, final_offset, Ends, Does, DoesAll, DoesTimes, passes, may_pass, accesses, first_time, later_time, in_order, one_of, repeats, end, next, enough, again}
use Rattle.runs.specs.Figures.{Time, held, tree_of, exit_times, exit_set}
use Rattle.runs.specs.Exact.{Longest, nothing, reached, ValidTask}
use Rattle.runs.proofs.Accesses.{state_path}
use Rattle.runs.proofs.ByNumber.{any_of, below, exec_does}
use Rattle.runs.proofs.TimesExact.{Any, TreeRun, longest_same, exits_exact}
use Rattle.runs.proofs.Whole.{whole_valid, flat_run, times_are}

-- The bit of a place is whether its entry holds a time.
any_held : {C : ℕ → Type 0} {v : Time} {w : Bool} → Longest C v → Any C w → w ≡ held v
unfolding held
any_held {w = true} (nothing h) k = absurd (let x = k.1 refl in h x.0 x.1)
any_held {w = false} (nothing h) k = refl
any_held {w = w} (reached x h) k = k.0 _ x

module _ (t : Task) (ok : ValidTask t) (unlined : (n : ℕ) → n < suc t.entry → node_lines (t.node_at n) ≡ 0) where
  abbrev P : ℕ
  P = t.bus.period

  abbrev flatly : Places
  flatly = offsets P

  -- the first P places are the offsets
  goes_same : (d p : ℕ) → p < P → flatly.goes d p ≡ (places_of t).goes d p
  unfolding with_lines
  goes_same d p l = rw (div-eq_of_lt l, zero-mul P, mod-eq_of_lt l, zero-add ((p + d) % P))

  tick_low : (s : State) → (tick flatly s).at < P
  unfolding tick
  tick_low s = mod-lt _ ok.lawful.period_pos

  tick_same : (s : State) → s.at < P → tick flatly s ≡ tick (places_of t) s
  unfolding tick
  tick_same s l = state_path (goes_same 1 s.at l) refl

  pass_same : (d : ℕ) (s : State) → s.at < P → (pass flatly d s ≡ pass (places_of t) d s) × ((pass flatly d s).at < P)
  unfolding pass
  pass_same zero s l = (refl, l)
  pass_same (suc d) s l =
      let (e, m) = pass_same d (tick flatly s) (tick_low s) in
      (e ∙ ap (pass (places_of t) d) (tick_same s l), m)

  may_same : (e : ℕ) (s : State) (z : Bool) → s.at < P → t.bus.may_start e s.at ≡ z → t.bus.may_start e (final_offset t s) ≡ z
  unfolding with_lines
  may_same e s z l h = ap (t.bus.may_start e) (mod-eq_of_lt l) ∙ h

  access_same : {e : ℕ} {s s' : State} → Access t.bus flatly e s s' → s.at < P → Access t.bus (places_of t) e s s' × (s'.at < P)
  access_same {e} {s} (start h) l = let (q, m) = pass_same e s l in (rw q (start (may_same e s true l h)), m)
  access_same {e} {s} {s'} (hold h r) l =
      let (a, m) = access_same r (tick_low s) in
      (hold (may_same e s false l h) (subst (λ (z : State). Access t.bus (places_of t) e z s') (tick_same s l) a), m)

  no_line : (n x lo hi hit : ℕ) → n < suc t.entry → t.node_at n ≡ Node.once x lo hi hit → ⊥
  no_line n x lo hi hit l e = let z : x + 1 ≡ 0 = rw e at (unlined n l) in omega arith

  mutual
    does_same : {n : ℕ} {s s' : State} → Does t.bus flatly t.node_at n s s' → n < suc t.entry → s.at < P
        → Does t.bus (places_of t) t.node_at n s s' × (s'.at < P)
    does_same {n} {s} (passes lo hi d e i j r) h l = let (q, m) = pass_same d s l in (passes lo hi d e i j (r ∙ q), rw r m)
    does_same {n} {s} (may_pass lo hi d e i j r) h l = let (q, m) = pass_same d s l in (may_pass lo hi d e i j (r ∙ q), rw r m)
    does_same (accesses kind lo hi d e i j r) h l = let (a, m) = access_same r l in (accesses kind lo hi d e i j a, m)
    does_same (first_time {n = n} x lo hi hit d e u i j r f) h l = absurd (no_line n x lo hi hit h e)
    does_same (later_time {n = n} x lo hi hit e u r) h l = absurd (no_line n x lo hi hit h e)
    does_same (in_order {n = n} ns e r) h l =
        let (a, m) = all_same r (below t.bus flatly t.node_at (suc t.entry) ok.falls n _ h e) l in (in_order ns e a, m)
    does_same (one_of {n = n} ns k e i r) h l =
        let (a, m) = does_same r (any_of (λ i. i < suc t.entry) i (below t.bus flatly t.node_at (suc t.entry) ok.falls n _ h e)) l in
        (one_of ns k e i a, m)
    does_same (repeats {n = n} least greatest body test k e i j r) h l =
        let (a, m) = times_same r (below t.bus flatly t.node_at (suc t.entry) ok.falls n _ h e) l in
        (repeats least greatest body test k e i j a, m)

    all_same : {ns : List ℕ} {s s' : State} → DoesAll t.bus flatly t.node_at ns s s' → All (λ i. i < suc t.entry) ns → s.at < P
        → DoesAll t.bus (places_of t) t.node_at ns s s' × (s'.at < P)
    all_same end h l = (end, l)
    all_same (next r rs) h l =
        let (a, m) = does_same r h.0 l in
        let (b, k) = all_same rs h.1 m in
        (next a b, k)

    times_same : {k body test : ℕ} {s s' : State} → DoesTimes t.bus flatly t.node_at k body test s s'
        → (body < suc t.entry) × (test < suc t.entry) → s.at < P → DoesTimes t.bus (places_of t) t.node_at k body test s s' × (s'.at < P)
    times_same (enough r) h l = let (a, m) = does_same r h.1 l in (enough a, m)
    times_same (again rs r u) h l =
        let (a, m) = times_same rs h l in
        let (b, k) = does_same r h.0 m in
        let (c, j) = does_same u h.1 k in
        (again a b c, j)

  -- so runs end where they end over offsets alone
  to_offsets : (o c : ℕ) → Ends t o c → TreeRun t.bus flatly t.starts (tree_of t) (on o c)
  unfolding with_lines
  to_offsets o c (p, e, r) = subst (TreeRun t.bus flatly t.starts (tree_of t)) (state_path e refl) (flat_run t ok (on p c) r)

  from_offsets : (o c : ℕ) → o < P → TreeRun t.bus flatly t.starts (tree_of t) (on o c) → Ends t o c
  unfolding with_lines
  from_offsets o c l (s₀, (i, e, z), x) =
      let d = exec_does t.bus flatly t.node_at (suc t.entry) ok.falls (suc t.entry) t.entry (omega arith) (omega arith) s₀ (on o c) x in
      let (r, m) = does_same d (omega arith) i in (
        o,
        mod-eq_of_lt l,
        record {
          from = s₀.at;
          inside = i;
          is_listed = e;
          does = subst (λ (y : State). Does t.bus (places_of t) t.node_at t.entry y (on o c)) (state_path refl z) r;
        },
      )

  pub exit_exact : (o : ℕ) → o < P → get_or (exit_set t) o false ≡ held (get_or (exit_times t) o none)
  exit_exact o l =
      any_held (longest_same _ _ _ (λ c r. to_offsets o c r) (λ c r. from_offsets o c l r) (times_are t ok o l))
      (exits_exact t.bus ok.lawful t.starts (tree_of t) (whole_valid t ok) o l)
