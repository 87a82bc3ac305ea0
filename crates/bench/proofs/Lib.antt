mod PackLaws
mod HistoryLaws
mod RepeatLaws
