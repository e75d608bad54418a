use Rattle.std.proofs.Common.{◌≡◌, true, false, [], ◌∷◌, ◌++◌, Some, Ok, Err, sym, ap, ◌∙◌, subst, w64, SFits, rules}
use Rattle.std.proofs.lemmas.Int.{to_z-of_z}
use Rattle.std.proofs.lemmas.Result.{err_from_is_err_and}
use Rattle.keyed_log.specs.Entries.{last}
use Rattle.keyed_log.specs.Logs.{held, memory}
use Rattle.power.specs.Course.{Stays}
use Rattle.power.specs.Taking.{of_log}
use Rattle.power.proofs.Judging.{judged_parts}
use Rattle.minute_record.specs.Minutes.{is_recent, minute_course}
use Rattle.minute_record.specs.MinuteRecords.{minutes}
use Rattle.minute_record.specs.Recorded.{Recorded}
use Rattle.minute_record.specs.Taking.{entered, grows, is_later}
use Rattle.minute_record.proofs.Entered.{last_small, Placed, replaced_last, appended_new, sampled_after, recent_after}
use Rattle.minute_record.proofs.Keeps.{stays_after}
use Rattle.minute_record.proofs.Records.{recorded_after}
use Rattle.minute_record.proofs.minute_record.MinuteRecord.take_sample.Goals as goal
use Rattle.minute_record.proofs.minute_record.MinuteRecord.take_sample.Goals.{in-Some+in_ok-replace_last-in-Some, in_default-last+in_ok-append-in_default-last, in_default-last-via-in-Some+else-last-minute_of, in_default-last-via-in_default-last}

pub grown-requires-clause-small : goal.grown-requires-clause-small
grown-requires-clause-small c = let r = c.args.self.now in last_small r.latest (minutes r) c.in-Some.last r.recent r.sampled (sym c.in-Some.ensures)

pub returns-in_err-append-in_default-last-clause-takes : goal.returns-in_err-append-in_default-last-clause-takes
returns-in_err-append-in_default-last-clause-takes c =
    let r = c.args.self.now in
    let s = c.args.sample in
    let after : is_later r.latest s.instant ≡ true = search rules in
    let new : grows (last (minutes r)) s.instant ≡ false = elim c.in_default-last.branch [ in_default-last-via-in-Some+else-last-minute_of w ↦ search rules | in_default-last-via-in_default-last w ↦ search rules ] in
    let placed = appended_new r.latest (minutes r) s r.recent c.in_ok-judge.ensures after (memory r.log) c.begun.result new c.begun.ensures in
    let refusal = err_from_is_err_and c.from_residual-in_err-append-in_default-last.result c.from_residual-in_err-append-in_default-last.ensures.1 in
    record {
      answer = refusal.1 ∙ ap Err refusal.2 ∙ ap of_log c.in_err-append-in_default-last.ensures.answer ∙ placed.answer;
      kept = search rules;
      slots = search rules;
      latest = search rules;
    }

pub invariant_of-self-2 : goal.invariant_of-self-2
invariant_of-self-2 c =
    let r = c.args.self.now in
    let s = c.args.sample in
    let after : is_later r.latest s.instant ≡ true = search rules in
    let kept : held c.match-last.self.1.0 ≡ entered (Ok tt) (minutes r) s = elim c.match-last.branch [
      | in-Some+in_ok-replace_last-in-Some w ↦
          let grown : grows (Some w.in-Some.last) s.instant ≡ true = search rules in
          let placed = replaced_last r.latest (minutes r) s r.recent c.in_ok-judge.ensures after (memory r.log) w.in-Some.last w.grown.result w.in-Some.ensures grown w.grown.ensures in
          rw w.self-is (w.in_ok-replace_last-in-Some.ensures.held ∙ placed.kept)
      | in_default-last+in_ok-append-in_default-last w ↦
          let new : grows (last (minutes r)) s.instant ≡ false = elim w.in_default-last.branch [ in_default-last-via-in-Some+else-last-minute_of w' ↦ search rules | in_default-last-via-in_default-last w' ↦ search rules ] in
          let placed = appended_new r.latest (minutes r) s r.recent c.in_ok-judge.ensures after (memory r.log) w.begun.result new w.begun.ensures in
          rw w.self-is (w.in_ok-append-in_default-last.ensures.held ∙ placed.kept)
    ] in
    let judged = judged_parts s c.in_ok-judge.ensures in
    let fits : SFits w64 s.instant = search rules in
    rw kept (record {
      sampled = sampled_after r.latest (minutes r) s r.log.rising r.recent after r.sampled judged;
      recent = subst (λ n. is_recent (Some n) (last (entered (Ok tt) (minutes r) s)) ≡ true) (sym (to_z-of_z w64 s.instant fits)) (recent_after r.latest (minutes r) s r.log.rising r.recent after r.sampled judged);
    })

pub returns : goal.returns
returns c =
    let r = c.args.self.now in
    let s = c.args.sample in
    let after : is_later r.latest s.instant ≡ true = search rules in
    let placed : Placed r.latest (minutes r) s (memory r.log) (Ok tt) (held c.match-last.self.1.0) (memory c.match-last.self.1.0) = elim c.match-last.branch [
      | in-Some+in_ok-replace_last-in-Some w ↦
          let grown : grows (Some w.in-Some.last) s.instant ≡ true = search rules in
          let placed = replaced_last r.latest (minutes r) s r.recent c.in_ok-judge.ensures after (memory r.log) w.in-Some.last w.grown.result w.in-Some.ensures grown w.grown.ensures in
          rw (w.self-is, w.in_ok-replace_last-in-Some.ensures.held, w.in_ok-replace_last-in-Some.ensures.memory) placed
      | in_default-last+in_ok-append-in_default-last w ↦
          let new : grows (last (minutes r)) s.instant ≡ false = elim w.in_default-last.branch [ in_default-last-via-in-Some+else-last-minute_of w' ↦ search rules | in_default-last-via-in_default-last w' ↦ search rules ] in
          let placed = appended_new r.latest (minutes r) s r.recent c.in_ok-judge.ensures after (memory r.log) w.begun.result new w.begun.ensures in
          rw (w.self-is, w.in_ok-append-in_default-last.ensures.held, w.in_ok-append-in_default-last.ensures.memory) (record { answer = ap of_log w.in_ok-append-in_default-last.ensures.answer ∙ placed.answer; kept = placed.kept; slots = placed.slots })
    ] in
    record {
      takes = record { answer = placed.answer; kept = placed.kept; slots = placed.slots; latest = search rules };
      keeps = λ t. subst (λ l. Stays (minute_course (minutes r) t) (minute_course l t)) (sym placed.kept) (stays_after r.latest (minutes r) s r.log.rising r.recent after t);
      records = λ ss h. subst (Recorded (ss ++ s ∷ [])) (sym placed.kept) (recorded_after r.latest (minutes r) s r.log.rising r.recent after ss h);
    }
