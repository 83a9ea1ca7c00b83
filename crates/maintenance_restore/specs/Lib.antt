-- SPDX-License-Identifier: Apache-2.0
pub mod Pins
pub mod Restore
pub mod Tries
pub mod Answers
