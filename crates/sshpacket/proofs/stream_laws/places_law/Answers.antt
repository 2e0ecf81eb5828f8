use Rattle.sshpacket.proofs.Places.{after-append, after-push, count-append, count-push, first-append, first-prefix, first-push, flat-append, flat-push, stands-append, stands-prefix, stands-push}
use Rattle.sshpacket.proofs.stream_laws.places_law.Goals as goal

pub returns-clause-stands_push : goal.returns-clause-stands_push
returns-clause-stands_push c = λ t before us u. stands-push t before us u

pub returns-clause-first_push : goal.returns-clause-first_push
returns-clause-first_push c = λ other t before us u. first-push other t before us u

pub returns-clause-after_push : goal.returns-clause-after_push
returns-clause-after_push c = λ t before us u. after-push t before us u

pub returns-clause-count_push : goal.returns-clause-count_push
returns-clause-count_push c = λ t before us u. count-push t before us u

pub returns-clause-bytes_push : goal.returns-clause-bytes_push
returns-clause-bytes_push c = λ f before us u. flat-push f before us u

pub returns-clause-units_push : goal.returns-clause-units_push
returns-clause-units_push c = λ f before us u. flat-push f before us u

pub returns-clause-stands_append : goal.returns-clause-stands_append
returns-clause-stands_append c = λ t before us more. stands-append t before us more

pub returns-clause-first_append : goal.returns-clause-first_append
returns-clause-first_append c = λ other t before us more. first-append other t before us more

pub returns-clause-after_append : goal.returns-clause-after_append
returns-clause-after_append c = λ t before us more. after-append t before us more

pub returns-clause-count_append : goal.returns-clause-count_append
returns-clause-count_append c = λ t before us more. count-append t before us more

pub returns-clause-bytes_append : goal.returns-clause-bytes_append
returns-clause-bytes_append c = λ f before us more. flat-append f before us more

pub returns-clause-units_append : goal.returns-clause-units_append
returns-clause-units_append c = λ f before us more. flat-append f before us more

pub returns-clause-stands_front : goal.returns-clause-stands_front
returns-clause-stands_front c = λ t us all. stands-prefix t us all

pub returns-clause-first_front : goal.returns-clause-first_front
returns-clause-first_front c = λ other t us all. first-prefix other t us all
