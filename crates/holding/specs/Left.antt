-- What a step of any kind tells its caller, and leaves of the four buffers.
use Rattle.std.specs.Prelude.{ℕ}
use Rattle.buffers.specs.declared.Answer.{Answer}
use Rattle.steps.specs.Step.{Call, begin, open_read, open_write, set_value, found, reselect, request_commit, abort, send, delivery, drop, switch}
use Rattle.buffers.specs.Buffers.{Buffers, all}
use Rattle.station_calls.specs.Calls.{host_told, host_records, switch_told, switch_own}
use Rattle.station.specs.Messages.{send_told, send_pool, drop_told, drop_pool, delivery_told, delivery_images, delivery_records, delivery_pool}

-- what its caller is told
unfoldable pub told_of : Buffers → Call → Answer
told_of b (begin n w) = host_told b n (begin n w)
told_of b (open_read n t) = host_told b n (open_read n t)
told_of b (open_write n t) = host_told b n (open_write n t)
told_of b (set_value n t v) = host_told b n (set_value n t v)
told_of b (found n t) = host_told b n (found n t)
told_of b (reselect n live d) = host_told b n (reselect n live d)
told_of b (request_commit n) = host_told b n (request_commit n)
told_of b (abort n) = host_told b n (abort n)
told_of b (send n to t) = send_told b n to t
told_of b (delivery k kept) = delivery_told b k kept
told_of b (drop k) = drop_told b k
told_of b (switch n up) = switch_told b n up

-- what is left of the buffers
abbrev pub host_left : Buffers → ℕ → Call → Buffers
host_left b n c = all b.images (host_records b n c) b.pool b.own

unfoldable pub left_of : Buffers → Call → Buffers
left_of b (begin n w) = host_left b n (begin n w)
left_of b (open_read n t) = host_left b n (open_read n t)
left_of b (open_write n t) = host_left b n (open_write n t)
left_of b (set_value n t v) = host_left b n (set_value n t v)
left_of b (found n t) = host_left b n (found n t)
left_of b (reselect n live d) = host_left b n (reselect n live d)
left_of b (request_commit n) = host_left b n (request_commit n)
left_of b (abort n) = host_left b n (abort n)
left_of b (send n to t) = all b.images b.records (send_pool b n to t) b.own
left_of b (delivery k kept) = all (delivery_images b k kept) (delivery_records b k kept) (delivery_pool b k kept) b.own
left_of b (drop k) = all b.images b.records (drop_pool b k) b.own
left_of b (switch n up) = all b.images b.records b.pool (switch_own b n up)
