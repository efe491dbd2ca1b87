-- What each worker does as a row is begun and done.
use Rattle.std.proofs.Common.{◌≡◌, ◌≢◌, ℕ, ◌+◌, ◌-◌, ◌<◌, ◌≤◌, ⊎_elim, List, [], ◌∷◌, ◌++◌, Option, Some, None, length, get_or, set, length-append, length-set, get_or-set_same, get_or-set_other, refl, sym, ◌∙◌, ap, subst, arith}
use Rattle.std.proofs.lemmas.Bool.{cases_eq}
use Rattle.std.proofs.lemmas.List.{get_or_append_left, get_or_default, get_or_push}
use Rattle.bw_procedures.specs.declared.reply.Reply.{Reply}
use Rattle.bw_texts.specs.declared.trace.row.Row.{Row}
use Rattle.bw_film.specs.declared.crew.AnsweredRow.{AnsweredRow}
use Rattle.bw_film.specs.declared.crew.NumberedRow.{NumberedRow}
use Rattle.bw_film.specs.declared.crew.Standing.{Standing}
use Rattle.bw_film.specs.Crews.{AnswersRow, BeginsRow, IsCrew, IsFirst, IsLastDone, IsRowAt, IsStanding, NoneOf}

row_is : (rows : List Row) (worker place : ℕ) (it : NumberedRow) → it.number ≡ place + 1 → IsRowAt rows worker it → (d : Row) → get_or rows place d ≡ it.row
row_is rows worker place it number at d =
    let back : place ≡ it.number - 1 = omega (arith, number) in
    ap (λ k. get_or rows k d) back ∙ at.row d

-- where the row at a place is a worker's, no other worker has a row there
other_place : (rows : List Row) (worker place : ℕ) (it x : NumberedRow) → it.number ≡ place + 1 → IsRowAt rows it.row.worker it → it.row.worker ≢ worker → IsRowAt rows worker x → x.number ≢ place + 1
other_place rows worker place it x number at other own e =
    let same : x.row ≡ it.row = sym (row_is rows worker place x e own it.row) ∙ row_is rows it.row.worker place it number at it.row in
    other (ap (λ (r : Row). r.worker) (sym same) ∙ own.own)

pub none_in : (rows : List Row) (worker low high : ℕ) → high ≤ low → NoneOf rows worker low high
none_in rows worker low high empty i d from below is = omega (arith, empty, from, below)

none_fewer : (rows : List Row) (worker low high more fewer : ℕ) → NoneOf rows worker low high → low ≤ more → fewer ≤ high → NoneOf rows worker more fewer
none_fewer rows worker low high more fewer before above below i d from to = before i d (omega (arith, above, from)) (omega (arith, below, to))

-- a row more that isn't the worker's
pub none_more : (rows : List Row) (worker low middle high place : ℕ) (it : NumberedRow) → middle ≡ place → high ≡ place + 1 → it.number ≡ place + 1 → IsRowAt rows it.row.worker it → it.row.worker ≢ worker
    → NoneOf rows worker low middle → NoneOf rows worker low high
none_more rows worker low middle high place it here more number at other before i d from below is =
    ⊎_elim (λ e. other (sym (ap (λ (r : Row). r.worker) (ap (λ k. get_or rows k d) e ∙ row_is rows it.row.worker place it number at d)) ∙ is))
    (λ n. before i d from (omega (arith, n, here, more, below)) is) (cases_eq i place)

first_here : (rows : List Row) (low high place : ℕ) (it : NumberedRow) → low ≡ place → high ≡ place + 1 → it.number ≡ place + 1 → IsRowAt rows it.row.worker it → IsFirst rows it.row.worker low high (Some it)
first_here rows low high place it here more number at = record {
  at = at;
  from = omega (arith, here, number);
  before = omega (arith, more, number);
  first = none_in rows it.row.worker low (it.number - 1) (omega (arith, here, number));
}

-- the first row from a place on, where that is another worker's, is the first one after it
first_later : (rows : List Row) (worker place high : ℕ) (it : NumberedRow) (x : Option NumberedRow) → it.number ≡ place + 1 → IsRowAt rows it.row.worker it → it.row.worker ≢ worker → IsFirst rows worker place high x → IsFirst rows worker (place + 1) high x
first_later rows worker place high it None number at other before = none_fewer rows worker place high (place + 1) high before (omega arith) (omega arith)
first_later rows worker place high it (Some x) number at other before =
    let elsewhere = other_place rows worker place it x number at other before.at in
    record {
      at = before.at;
      from = omega (arith, elsewhere, before.from);
      before = before.before;
      first = none_fewer rows worker place (x.number - 1) (place + 1) (x.number - 1) before.first (omega arith) (omega arith);
    }

-- no other worker is at the row that is begun
still_none : (rows : List Row) (worker low place : ℕ) (it : NumberedRow) (x : Option NumberedRow) → low ≡ place → it.number ≡ place + 1 → IsRowAt rows it.row.worker it → it.row.worker ≢ worker → IsFirst rows worker low place x → IsFirst rows worker low (place + 1) x
still_none rows worker low place it None here number at other before = none_more rows worker low place (place + 1) place it refl refl number at other before
still_none rows worker low place it (Some x) here number at other before = let no : ⊥ = omega (arith, here, before.from, before.before) in absurd no

-- and none was at it
none_since : (rows : List Row) (worker low high place : ℕ) (it : NumberedRow) (x : Option NumberedRow) → low ≡ place → high ≡ place + 1 → it.number ≡ place + 1 → IsRowAt rows it.row.worker it → it.row.worker ≢ worker → IsFirst rows worker low (place + 1) x → IsFirst rows worker high (place + 1) x
none_since rows worker low high place it None here more number at other before = none_in rows worker high (place + 1) (omega (arith, more))
none_since rows worker low high place it (Some x) here more number at other before =
    absurd (other_place rows worker place it x number at other before.at (omega (arith, here, before.from, before.before)))

-- a reply more is none to another worker's row
done_before : (rows : List Row) (replies : List Reply) (reply : Reply) (worker place : ℕ) (it : NumberedRow) (x : Option AnsweredRow) → length replies ≡ place → it.number ≡ place + 1 → IsRowAt rows it.row.worker it → it.row.worker ≢ worker
    → IsLastDone rows replies worker x → IsLastDone rows (replies ++ reply ∷ []) worker x
done_before rows replies reply worker place it None many number at other before =
    none_more rows worker 0 (length replies) (length (replies ++ reply ∷ [])) place it many (omega (arith, many, length-append replies (reply ∷ []))) number at other before
done_before rows replies reply worker place it (Some x) many number at other before =
    let within : x.row.number - 1 < length replies = omega (arith, before.at.from_one, before.answered) in
    record {
      at = before.at;
      answered = omega (arith, before.answered, length-append replies (reply ∷ []));
      reply = λ d. get_or_append_left replies (reply ∷ []) d (x.row.number - 1) within ∙ before.reply d;
      last = none_more rows worker x.row.number (length replies) (length (replies ++ reply ∷ [])) place it many (omega (arith, many, length-append replies (reply ∷ []))) number at other before.last;
    }

done_now : (rows : List Row) (replies : List Reply) (reply : Reply) (place : ℕ) (it : NumberedRow) (x : AnsweredRow) → length replies ≡ place → it.number ≡ place + 1 → IsRowAt rows it.row.worker it → x.row ≡ it → x.reply ≡ reply
    → IsLastDone rows (replies ++ reply ∷ []) it.row.worker (Some x)
done_now rows replies reply place it x many number at row answer =
    let long = length-append replies (reply ∷ []) in
    let here : x.row.number ≡ place + 1 = ap (λ (r : NumberedRow). r.number) row ∙ number in
    let last : length replies ≡ x.row.number - 1 = omega (arith, many, here) in
    record {
      at = subst (λ (r : NumberedRow). IsRowAt rows it.row.worker r) (sym row) at;
      answered = omega (arith, many, here, long);
      reply = λ d. get_or_push replies reply d (x.row.number - 1) last ∙ sym answer;
      last = none_in rows it.row.worker x.row.number (length (replies ++ reply ∷ [])) (omega (arith, many, here, long));
    }

-- one place of a crew is written
crew_set : (rows : List Row) (replies : List Reply) (begun place : ℕ) (crew : List Standing) (it : Standing) → place < length crew → IsStanding rows replies begun place it
    → ((i : ℕ) (d : Standing) → i ≢ place → i < length crew → IsStanding rows replies begun i (get_or crew i d)) → IsCrew rows replies begun (set crew place it)
crew_set rows replies begun place crew it inside own others i d within =
    ⊎_elim
    (λ e. subst (λ k. IsStanding rows replies begun k (get_or (set crew place it) k d)) (sym e) (subst (λ (s : Standing). IsStanding rows replies begun place s) (sym (get_or-set_same crew place it d inside)) own))
    (λ n. subst (λ (s : Standing). IsStanding rows replies begun i s) (sym (get_or-set_other crew place i it d n)) (others i d n (omega (arith, length-set crew place it, within))))
    (cases_eq i place)

turned : {a b : ℕ} → a ≢ b → b ≢ a
turned other e = other (sym e)

pub begins : (rows : List Row) (place : ℕ) (row : NumberedRow) (crew : List Standing) (old it : Standing) → row.number ≡ place + 1 → IsRowAt rows row.row.worker row → row.row.worker < length crew → old ≡ get_or crew row.row.worker old
    → it.worker ≡ old.worker → it.done ≡ old.done → it.doing ≡ Some row → IsFirst rows row.row.worker (place + 1) (length rows) it.next → BeginsRow rows place crew (set crew row.row.worker it)
begins rows place row crew old it number at inside was worker done doing next = record {
  many = length-set crew row.row.worker it;
  crew = λ replies many before.
      let own : IsStanding rows replies place row.row.worker old = subst (λ (s : Standing). IsStanding rows replies place row.row.worker s) (sym was) (before row.row.worker old inside) in
      crew_set rows replies (place + 1) row.row.worker crew it inside
      (record {
        worker = worker ∙ own.worker;
        done = subst (λ (x : Option AnsweredRow). IsLastDone rows replies row.row.worker x) (sym done) own.done;
        doing = subst (λ (x : Option NumberedRow). IsFirst rows row.row.worker (length replies) (place + 1) x) (sym doing) (first_here rows (length replies) (place + 1) place row many refl number at);
        next = next;
      })
      (λ i d other within. let same = before i d within in record {
        worker = same.worker;
        done = same.done;
        doing = still_none rows i (length replies) place row (get_or crew i d).doing many number at (turned other) same.doing;
        next = first_later rows i place (length rows) row (get_or crew i d).next number at (turned other) same.next;
      });
}

pub answers : (rows : List Row) (place : ℕ) (row : NumberedRow) (reply : Reply) (crew : List Standing) (old it : Standing) (done : AnsweredRow) → row.number ≡ place + 1 → IsRowAt rows row.row.worker row → row.row.worker < length crew
    → old ≡ get_or crew row.row.worker old → it.worker ≡ old.worker → it.done ≡ Some done → done.row ≡ row → done.reply ≡ reply → it.doing ≡ None → it.next ≡ old.next → AnswersRow rows place reply crew (set crew row.row.worker it)
answers rows place row reply crew old it done number at inside was worker is_done is_row is_reply doing next = record {
  many = length-set crew row.row.worker it;
  crew = λ replies many before.
      let more : length (replies ++ reply ∷ []) ≡ place + 1 = omega (arith, many, length-append replies (reply ∷ [])) in
      let own : IsStanding rows replies (place + 1) row.row.worker old = subst (λ (s : Standing). IsStanding rows replies (place + 1) row.row.worker s) (sym was) (before row.row.worker old inside) in
      crew_set rows (replies ++ reply ∷ []) (place + 1) row.row.worker crew it inside
      (record {
        worker = worker ∙ own.worker;
        done = subst (λ (x : Option AnsweredRow). IsLastDone rows (replies ++ reply ∷ []) row.row.worker x) (sym is_done) (done_now rows replies reply place row done many number at is_row is_reply);
        doing = subst (λ (x : Option NumberedRow). IsFirst rows row.row.worker (length (replies ++ reply ∷ [])) (place + 1) x) (sym doing) (none_in rows row.row.worker (length (replies ++ reply ∷ [])) (place + 1) (omega (arith, more)));
        next = subst (λ (x : Option NumberedRow). IsFirst rows row.row.worker (place + 1) (length rows) x) (sym next) own.next;
      })
      (λ i d other within. let same = before i d within in record {
        worker = same.worker;
        done = done_before rows replies reply i place row (get_or crew i d).done many number at (turned other) same.done;
        doing = none_since rows i (length replies) (length (replies ++ reply ∷ [])) place row (get_or crew i d).doing many more number at (turned other) same.doing;
        next = same.next;
      });
}

-- a row of a worker of whom it isn't shown what it does
apart : (rows : List Row) (place : ℕ) (row : NumberedRow) (crew : List Standing) → length crew ≤ row.row.worker → (i : ℕ) → i < length crew → row.row.worker ≢ i
apart rows place row crew outside i within e = omega (arith, outside, within, e)

pub begins_apart : (rows : List Row) (place : ℕ) (row : NumberedRow) (crew : List Standing) → row.number ≡ place + 1 → IsRowAt rows row.row.worker row → length crew ≤ row.row.worker → BeginsRow rows place crew crew
begins_apart rows place row crew number at outside = record {
  many = refl;
  crew = λ replies many before i d within.
      let same = before i d within in
      let other = apart rows place row crew outside i within in
      record {
        worker = same.worker;
        done = same.done;
        doing = still_none rows i (length replies) place row (get_or crew i d).doing many number at other same.doing;
        next = first_later rows i place (length rows) row (get_or crew i d).next number at other same.next;
      };
}

pub answers_apart : (rows : List Row) (place : ℕ) (row : NumberedRow) (reply : Reply) (crew : List Standing) → row.number ≡ place + 1 → IsRowAt rows row.row.worker row → length crew ≤ row.row.worker → AnswersRow rows place reply crew crew
answers_apart rows place row reply crew number at outside = record {
  many = refl;
  crew = λ replies many before i d within.
      let same = before i d within in
      let other = apart rows place row crew outside i within in
      let more : length (replies ++ reply ∷ []) ≡ place + 1 = omega (arith, many, length-append replies (reply ∷ [])) in
      record {
        worker = same.worker;
        done = done_before rows replies reply i place row (get_or crew i d).done many number at other same.done;
        doing = none_since rows i (length replies) (length (replies ++ reply ∷ [])) place row (get_or crew i d).doing many more number at other same.doing;
        next = same.next;
      };
}

pub row_at : (rows : List Row) (place : ℕ) (row : Row) (it : NumberedRow) → place < length rows → get_or rows place row ≡ row → it.number ≡ place + 1 → it.row ≡ row → IsRowAt rows it.row.worker it
row_at rows place row it inside at number is =
    let back : it.number - 1 ≡ place = omega (arith, number) in
    record {
      from_one = omega (arith, number);
      within = omega (arith, number, inside);
      row = λ d. ap (λ k. get_or rows k d) back ∙ get_or_default rows place d row inside ∙ at ∙ sym is;
      own = refl;
    }

-- a worker's row after none
pub found : (rows : List Row) (worker from place : ℕ) (it : NumberedRow) → it.number ≡ place + 1 → IsRowAt rows it.row.worker it → it.row.worker ≡ worker → from ≤ place → place < length rows → NoneOf rows worker from place
    → IsFirst rows worker from (length rows) (Some it)
found rows worker from place it number at own low inside none = record {
  at = record { from_one = at.from_one; within = at.within; row = at.row; own = own };
  from = omega (arith, number, low);
  before = omega (arith, number, inside);
  first = none_fewer rows worker from place from (it.number - 1) none (omega arith) (omega (arith, number));
}

pub found_none : (rows : List Row) (worker from place : ℕ) → length rows ≤ place → NoneOf rows worker from place → IsFirst rows worker from (length rows) None
found_none rows worker from place behind none = none_fewer rows worker from place from (length rows) none (omega arith) behind

pub passed : (rows : List Row) (worker from place : ℕ) (it : NumberedRow) → it.number ≡ place + 1 → IsRowAt rows it.row.worker it → it.row.worker ≢ worker → NoneOf rows worker from place → NoneOf rows worker from (place + 1)
passed rows worker from place it number at other none = none_more rows worker from place (place + 1) place it refl refl number at other none

-- before the first row a worker did none and does none
pub crew_more : (rows : List Row) (crew : List Standing) (it : Standing) → it.worker ≡ length crew → it.done ≡ None → it.doing ≡ None → IsFirst rows (length crew) 0 (length rows) it.next → IsCrew rows [] 0 crew → IsCrew rows [] 0 (crew ++ it ∷ [])
crew_more rows crew it worker done doing next before i d within =
    ⊎_elim
    (λ e. subst (λ k. IsStanding rows [] 0 k (get_or (crew ++ it ∷ []) k d)) (sym e) (subst (λ (s : Standing). IsStanding rows [] 0 (length crew) s) (sym (get_or_push crew it d (length crew) refl)) record {
      worker = worker;
      done = subst (λ (x : Option AnsweredRow). IsLastDone rows [] (length crew) x) (sym done) (none_in rows (length crew) 0 0 (omega arith));
      doing = subst (λ (x : Option NumberedRow). IsFirst rows (length crew) 0 0 x) (sym doing) (none_in rows (length crew) 0 0 (omega arith));
      next = next;
    }))
    (λ n. let inside : i < length crew = omega (arith, n, within, length-append crew (it ∷ [])) in
    subst (λ (s : Standing). IsStanding rows [] 0 i s) (sym (get_or_append_left crew (it ∷ []) d i inside)) (before i d inside))
    (cases_eq i (length crew))

pub crew_none : (rows : List Row) (crew : List Standing) → length crew ≡ 0 → IsCrew rows [] 0 crew
crew_none rows crew none i d within = let no : ⊥ = omega (arith, none, within) in absurd no
